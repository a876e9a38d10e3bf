-- What a lent state holds (docs/FORMS.md, 'Lent buffers'), and what each operation of `rows` answers and leaves.
use Rattle.std.specs.Prelude.{ℕ, ◌≤◌, Bool, true, false, cond, ◌&&◌, List, [], ◌∷◌, map, ltb, leb, eqb, length, get_or, ◌≡◌}
use Rattle.std.proofs.Math.Option.{Option, none, some}
use Rattle.std.proofs.lemmas.List.Edits.{sets}
use Rattle.rules.specs.Numbers.{Answer, accepted, refused, most_steps}
use Rattle.rules.specs.Tries.{Row, Form, manifest, contribution, follows, ordered, lawful, found, entries_in, nodes_in}
use Rattle.rows.specs.Words.{depth_in, is_word, row_in, word_of}
use Rattle.rows.specs.declared.Kind.{Kind}
use Rattle.rows.specs.declared.Kind.TheVariants.{Contribution, Manifest}
use Rattle.words.specs.Replies.{Done, Refused}
use Rattle.words.specs.declared.Refusal.{Refusal}
use Rattle.std.specs.Prelude.{Option as Maybe, Some, None, Result, Ok}
use Rattle.rows.specs.declared.size.Size.{Size}
use Rattle.words.specs.Runs.{words_in, Outcome, refusing}

-- the limits of each kind of state
abbrev pub form_of : Kind → Form
form_of Contribution = contribution
form_of Manifest = manifest

-- the one length of each kind of state
abbrev pub words_of : Kind → ℕ
words_of Contribution = 1026
words_of Manifest = 4161

unfoldable pub all_words : List ℕ → Bool
all_words [] = true
all_words (w ∷ ws) = let rest : Bool = all_words ws in cond (is_word w) rest false

-- the rows that words pack
abbrev pub rows_of : List ℕ → List Row
rows_of words = map row_in words

-- words that pack rows in the listing's order
abbrev pub good_rows : List ℕ → Bool
good_rows words = all_words words && ordered [] (rows_of words)

-- how many entries and nodes words are, if they pack rows in the listing's order
abbrev pub counted_rows : List ℕ → Maybe Size
counted_rows words = cond (good_rows words) (Some (record { entries = entries_in (rows_of words); nodes = nodes_in (rows_of words) })) None

-- a word that packs a row which may come after the place s
unfoldable pub may_follow : List ℕ → ℕ → Bool
may_follow s word = is_word word && (follows s (row_in word) && leb (depth_in word) most_steps)

-- a state's rows
abbrev pub rows_in : List ℕ → List Row
rows_in state = rows_of (words_in state)

-- 'a lent state that isn't a lawful one': the count, each word and the rows are judged
unfoldable pub lawful_state : Form → List ℕ → Bool
lawful_state form state = ltb (get_or state 0 0) (length state) && (all_words (words_in state) && lawful form (rows_in state))

-- the rows of one entry of a manifest: its own row, and its nodes
unfoldable pub lawful_entry : List ℕ → Bool
lawful_entry words = good_rows words && (leb (nodes_in (rows_of words)) manifest.nodes && eqb (entries_in (rows_of words)) 1)

-- A lent state of a kind: it is long enough, lawful, and has these rows.
pub record Lent (kind : Kind) (state : List ℕ) (rows : List Row) : Type 0 where
  pub long : words_of kind ≤ length state
  pub lawful-state : lawful_state (form_of kind) state ≡ true
  pub has_rows : rows_in state ≡ rows

-- a buffer that holds rows, what follows them as it was
abbrev pub holding : List ℕ → List Row → List ℕ
holding out rows = sets out 0 (length rows ∷ map word_of rows)

abbrev pub storing : List ℕ → Answer (List Row) → Outcome
storing out (accepted rows) = record { reply = Done; buffer = holding out rows }
storing out (refused number place) = refusing number place out

-- whether a state has a place, and whether it marks it
abbrev pub held_as : Option Bool → Maybe Bool
held_as none = None
held_as (some mark) = Some mark

unfoldable pub has_of : Kind → List ℕ → List ℕ → Result (Maybe Bool) Refusal
has_of kind state place =
    cond (leb (words_of kind) (length state))
    (cond (lawful_state (form_of kind) state) (Ok (held_as (found [] (rows_in state) place))) (Refused 1 0))
    (Refused 31 0)
