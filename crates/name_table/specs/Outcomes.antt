-- What reading a name table and finding a name answer and leave.
use Rattle.std.specs.Prelude.{ℕ, ◌+◌, ◌≤◌, cond, List, [], ◌∷◌, ◌++◌, map, leb, ltb, length, get_or}
use Rattle.std.proofs.Math.Option.{Option, none, some}
use Rattle.std.proofs.lemmas.List.Edits.{sets}
use Rattle.rules.specs.Numbers.{Answer, accepted, refused}
use Rattle.words.specs.Keys.{searched}
use Rattle.words.specs.Runs.{Outcome, refusing, stored, words_in}
use Rattle.words.specs.Replies.{Done}
use Rattle.words.specs.declared.Refusal.{Refusal}
use Rattle.std.specs.Prelude.{Result, Ok, Err, Option as Maybe, Some, None}
use Rattle.rules.specs.Names.{Named, Naming, naming, read_names}
use Rattle.name_table.specs.Words.{name_word, named_in}

-- where a line that was taken leaves a table: it ends at a place, behind some lines
abbrev pub took_naming : ℕ → List Named → Maybe ℕ → Option Naming
took_naming end names (Some word) = some (naming (end + 1) ((named_in word).key + 1) (names ++ (named_in word ∷ [])))
took_naming end names None = none

-- it has at least five bytes
abbrev pub Long : ℕ → ℕ → Maybe ℕ → Type 0
Long at end (Some word) = at + 5 ≤ end
Long at end None = Unit

-- what was read into words: the lines that are stored, or a refusal
abbrev pub names_got : Result ℕ Refusal → List ℕ → Answer (List Named)
names_got (Ok count) words = accepted (map named_in (stored count words))
names_got (Err refusal) words = refused refusal.number refusal.place

abbrev pub line_count : Result ℕ Refusal → ℕ
line_count (Ok count) = count
line_count (Err refusal) = 0

-- docs/FORMS.md, 'Lent buffers': 1 count of lines + 10,922 lines; and the longest text
abbrev pub names_length : ℕ
names_length = 10923

abbrev pub text_length : ℕ
text_length = 65536

-- reading: 31, 15 for a longer text, then what the text gives by line
abbrev pub storing_names : List ℕ → Answer (List Named) → Outcome
storing_names out (accepted names) = record { reply = Done; buffer = sets out 0 (length names ∷ map name_word names) }
storing_names out (refused number place) = refusing number place out

unfoldable pub read_names_in : List ℕ → List ℕ → Outcome
read_names_in text out =
    cond (leb names_length (length out)) (cond (leb (length text) text_length) (storing_names out (read_names text)) (refusing 15 0 out)) (refusing 31 0 out)

-- finding: where the name of a line stands, if all of it is in the text
abbrev pub place_of : List ℕ → Named → Maybe (ℕ × ℕ)
place_of text n = cond (leb (n.from + n.size) (length text)) (Some (n.from, n.from + n.size)) None

-- the line with a key among words
abbrev pub place_at : List ℕ → List ℕ → Result ℕ ℕ → Maybe (ℕ × ℕ)
place_at text words (Ok i) = place_of text (named_in (get_or words i 0))
place_at text words (Err i) = None

unfoldable pub name_found : List ℕ → List ℕ → ℕ → Maybe (ℕ × ℕ)
name_found text names key =
    cond (ltb (get_or names 0 0) (length names)) (place_at text (words_in names) (searched (words_in names) key)) None

abbrev pub Inside : List ℕ → Maybe (ℕ × ℕ) → Type 0
Inside text (Some (from, to)) = (from ≤ to) × (to ≤ length text)
Inside text None = Unit
