-- Laws of the lines that a schema's text is read as. No contract cites this file.
use Rattle.std.specs.Prelude.{ℕ, ◌+◌, ◌-◌, ◌≤◌, ◌<◌, Bool, true, false, cond, List, [], ◌∷◌, ◌++◌, map, ◌≡◌, refl, eqb, leb, length, take, drop, set, Ok}
use Rattle.std.proofs.Common.{add_comm, arith, ap, ◌∙◌, length-set, length-append}
use Rattle.std.proofs.lemmas.List.{map-append, length-map}
use Rattle.std.proofs.Math.Option.{Option, none, some, none-ne-some, some-injective}
use borrow.Author.Tests.{eqb-true, leb-true, le-leb, lt-leb}
use Rattle.std.proofs.lemmas.List.Edits.{sets}
use Rattle.rules.specs.Facts.{cond-some}
use Rattle.rules.specs.Numbers.{Answer, accepted, refused}
use Rattle.rules.specs.Lines.{Folded, fold_text}
use Rattle.rules.proofs.LineLaws.{gathering, gathered, item_after, item_line, items_folded}
use Rattle.rules.specs.Text.{bytes, lines_of, fields_of, decimal_of}
use Rattle.rules.proofs.TextLaws.{decimal_written}
use Rattle.rules.specs.Listing.{◌>>=◌, is_letter, place_in}
use Rattle.rules.proofs.ListingLaws.{bind_some}
use Rattle.rules.specs.Schema.{Item, Known, item, unknown, value_of, type_of, pair_of, item_of, fits, beyond, read_schema}
use Rattle.text.specs.Answers.{line_at}
use Rattle.text.proofs.Laws.{whole_line, cut_line}
use Rattle.text.proofs.FoldLaws.{CameTo, came_end, came_cut, came_refused, came_next}
use Rattle.text.specs.declared.Line.{Line}
use Rattle.text.specs.declared.Line.TheVariants.{Whole}
use Rattle.words.specs.Runs.{refusing}
use Rattle.words.specs.Replies.{Done, Refused}
use Rattle.text.proofs.FieldLaws.{place_within}
use Rattle.words.specs.SeqLaws.{sets_snoc, set_before}
use Rattle.schema.specs.declared.known.Known.{Known as Kept}
use Rattle.schema.specs.Items.{item_word}
use Rattle.schema_text.specs.Outcomes.{storing_items, read_schema_in}
use Rattle.schema.specs.Bounds.{known_for, Bounded}
use Rattle.schema_text.specs.Reads.{kept_at, kept_from, ItemRoom, LinePassed, RefusedLine, how_many, ItemsRead}
use Rattle.schema.specs.KnownLaws.{most-lines, counted_beyond}
use Rattle.schema_text.specs.LineLaws.{named_most}

-- ---- the numbers of an item

-- a test that gives a value gives the one or the other
cond_either : {A B : Type 0} (test : Bool) (o o' : Option A) (a : A) → cond test o o' ≡ some a → (test ≡ true → o ≡ some a → B) → (o' ≡ some a → B) → B
cond_either true o o' a e this other = this refl e
cond_either false o o' a e this other = other e

-- what follows a kind is there for a kind of a type only, and is small
value-fits : (kind : ℕ) (more : List (List ℕ)) (v : ℕ) → value_of kind more ≡ some v → (kind ≤ 10) × (v < 131072)
value-fits kind [] v e =
    let (low, e₁) = cond-some (leb kind 10) _ v e in
    cond_either (eqb kind 6) none _ v e₁
    (λ t n. absurd (none-ne-some v n))
    (λ e₂. cond_either (eqb kind 9) none (some 0) v e₂
    (λ t n. absurd (none-ne-some v n))
    (λ e₃. let None-more : 0 ≡ v = some-injective 0 v e₃ in (leb-true kind 10 low, omega arith)))
value-fits kind (field ∷ []) v e =
    cond_either (eqb kind 6) (decimal_of field) _ v e
    (λ t d. (omega (arith, eqb-true kind 6 t), omega (arith, (decimal_written field v d).1)))
    (λ e₁. let (t, d) = cond-some (eqb kind 9) (decimal_of field) v e₁ in
    (omega (arith, eqb-true kind 9 t), omega (arith, (decimal_written field v d).1)))
value-fits kind (field ∷ next ∷ fields) v e =
    let (t, named) = cond-some (eqb kind 9) _ v e in
    (omega (arith, eqb-true kind 9 t), named_most field (next ∷ fields) v named)

-- a line's item fits its word
abbrev pub ItemFits : Item → Type 0
ItemFits it = (it.tag < 16) × (it.value < 131072) × (it.key ≤ 65535)

type_fits : (a b : List ℕ) (more : List (List ℕ)) (it : Item) → type_of a b more ≡ some it → ItemFits it
type_fits a b more it e =
    bind_some (decimal_of a) _ it e λ n n-read e₁.
    bind_some (decimal_of b) _ it e₁ λ k k-read e₂.
    bind_some (value_of k more) _ it e₂ λ v v-read e₃.
    let (low, small) = value-fits k more v v-read in
    rw (← some-injective (item k v n) it e₃) (omega arith, small, (decimal_written a n n-read).1)

pair_fits : (word a b : List ℕ) (it : Item) → pair_of word a b ≡ some it → ItemFits it
pair_fits word a b it e =
    bind_some (place_in (bytes "FLC") word) _ it e λ place place_read e₁.
    bind_some (decimal_of a) _ it e₁ λ k k-read e₂.
    bind_some (decimal_of b) _ it e₂ λ t t-read e₃.
    rw (← some-injective (item (12 + place) t k) it e₃) (
      omega (arith, place_within (bytes "FLC") word place place_read),
      omega (arith, (decimal_written b t t-read).1),
      (decimal_written a k k-read).1,
    )

entity_fits : (name : List ℕ) (it : Item) → (decimal_of name >>= (λ n. some (item 11 0 n))) ≡ some it → ItemFits it
entity_fits name it e =
    bind_some (decimal_of name) _ it e λ n n-read e₁.
    rw (← some-injective (item 11 0 n) it e₁) (omega arith, omega arith, (decimal_written name n n-read).1)

pub item_fits : (fields : List (List ℕ)) (it : Item) → item_of fields ≡ some it → ItemFits it
unfolding item_of
item_fits [] it e = absurd (none-ne-some it e)
item_fits (word ∷ []) it e = absurd (none-ne-some it e)
item_fits (word ∷ name ∷ []) it e = entity_fits name it (cond-some (is_letter 69 word) _ it e).1
item_fits (word ∷ a ∷ b ∷ []) it e = cond_either (is_letter 84 word) (type_of a b []) (pair_of word a b) it e (λ t. type_fits a b [] it) (pair_fits word a b it)
item_fits (word ∷ a ∷ b ∷ c ∷ more) it e = type_fits a b (c ∷ more) it (cond-some (is_letter 84 word) _ it e).1

-- ---- words that are stored, or not

kept_length : (stores : Bool) (out : List ℕ) (at word : ℕ) → length (kept_at stores out at word) ≡ length out
kept_length true out at word = simp length-set
kept_length false out at word = refl

-- one more goes behind the others
kept_next : (stores : Bool) (out words : List ℕ) (count word : ℕ) → length words ≡ count →
    kept_at stores (kept_from stores out words) (count + 1) word ≡ kept_from stores out (words ++ (word ∷ []))
kept_next true out words count word e = rw (sets_snoc out 1 words word, e, add_comm 1 count)
kept_next false out words count word e = refl

-- ---- a line that is taken

pub item_passed :
    (count : ℕ) (kept : Kept) (line : List ℕ) (stores : Bool) (out : List ℕ) (it : Item) {word : ℕ} {out' : List ℕ} {next : Kept} →
    ItemRoom count kept out →
    item_of (fields_of line) ≡ some it →
    fits (known_for kept) it ≡ true →
    word ≡ item_word it →
    out' ≡ kept_at stores out (count + 1) word →
    known_for next ≡ beyond (known_for kept) it →
    Bounded (known_for next) →
    LinePassed count kept line stores out out' next
item_passed count kept line stores out it {word} {out'} {next} room e may packed written past bounded =
    let left : next.room ≡ (beyond (known_for kept) it).room = ap (λ (k : Known). k.room) past in
    let section : next.section ≡ (beyond (known_for kept) it).section = ap (λ (k : Known). k.section) past in
    let lines : next.lines ≡ (beyond (known_for kept) it).lines = ap (λ (k : Known). k.lines) past in
    let same_length : length out' ≡ length out = ap length written ∙ kept_length stores out (count + 1) word in
    record {
      it = it;
      read-item = e;
      may-follow = may;
      comes_past = past;
      kept_word = rw packed at written;
      room = record {
        bounded = bounded;
        long = omega (arith, room.long);
        counted = rw (left, section, lines) (counted_beyond (known_for kept) it room.bounded may count room.counted);
      };
    }

-- ---- reading from line to line

-- the lines that were passed came to the items whose words are stored, where words are stored at all
pub record ReadingItems (text : List ℕ) (stores : Bool) (start : List ℕ) (kept : Kept) (out : List ℕ) (at count : ℕ) : Type 0 where
  pub room : ItemRoom count kept out
  pub passed : List Item
  pub as_many : length passed ≡ count
  pub in_out : out ≡ kept_from stores start (map item_word passed)
  pub came : CameTo (gathering item_line) (unknown, []) text at count (known_for kept, passed)

-- a line that may not come is where reading ends
line_refused : (place : ℕ) (known : Known) (o : Option Item) → RefusedLine known o → item_after place known o ≡ refused 1 place
line_refused place known none stopped = refl
line_refused place known (some it) stopped = rw stopped

module _ {text : List ℕ} {stores : Bool} {start : List ℕ} {kept : Kept} {out : List ℕ} {at count : ℕ}
    (reading : ReadingItems text stores start kept out at count) where
  -- there are fewer items than a state has words
  pub few_items : count < 142337
  few_items = omega (arith, reading.room.counted, most-lines (known_for kept) reading.room.bounded)

  -- what the text gives, by what its lines come to
  text_given : {answer : Answer (Folded (Known × List Item))} → fold_text (gathering item_line) text (unknown, []) ≡ answer →
      read_schema text ≡ gathered answer
  text_given e = rw (items_folded unknown 0 (lines_of text), e)

  -- where nothing is stored nothing has changed
  unchanged : stores ≡ false → out ≡ start
  unchanged e = reading.in_out ∙ rw e

  -- no line is left
  pub items_all : length text ≤ at → ItemsRead text stores start out (Ok count)
  items_all h =
      let all : read_schema text ≡ accepted reading.passed = text_given (came_end reading.came h) in
      record {
        answered = rw (all, reading.as_many);
        few = λ counted e. let same : count ≡ counted = cc in omega (arith, few_items);
        judged = unchanged;
        left = λ items e. let same : reading.passed ≡ items = cc in rw same at reading.in_out;
      }

  -- the text is refused
  refused_here : read_schema text ≡ refused 1 count → {out' : List ℕ} → out' ≡ out → ItemsRead text stores start out' (Refused 1 count)
  refused_here r same = record {
    answered = rw r;
    few = λ counted e. absurd (let z : ◌≡◌ {A = ℕ} 0 1 = cc in omega arith);
    judged = λ e. same ∙ unchanged e;
    left = λ items e. absurd (let z : ◌≡◌ {A = ℕ} 0 1 = cc in omega arith);
  }

  -- the next line has no LF
  pub reading_cut : {r : Line} → r ≡ line_at text at → ((end : ℕ) → r ≡ Whole end → ⊥) → at < length text → ItemsRead text stores start out (Refused 1 count)
  reading_cut {r} ensured unended more = refused_here (text_given (came_cut reading.came more (cut_line text at r ensured unended))) refl

  module _ {end : ℕ} {r : Line} (ensured : r ≡ line_at text at) (e : r ≡ Whole end) where
    -- the next line is refused
    pub items_stopped : {out' : List ℕ} → RefusedLine (known_for kept) (item_of (fields_of (take (end - at) (drop at text)))) × (out' ≡ out) →
        ItemsRead text stores start out' (Refused 1 count)
    items_stopped (stopped, same) =
        refused_here
        (text_given (came_refused reading.came (whole_line text at end r ensured e) (rw (line_refused count (known_for kept) _ stopped))))
        same

    -- the next line is taken
    pub items_next : {out' : List ℕ} {next : Kept} → LinePassed count kept (take (end - at) (drop at text)) stores out out' next →
        ReadingItems text stores start next out' (end + 1) (count + 1)
    items_next {out'} {next} line =
        let words = map item_word reading.passed in
        let counted : length words ≡ count = length-map reading.passed item_word ∙ reading.as_many in
        let behind : kept_at stores out (count + 1) (item_word line.it) ≡ kept_from stores start (words ++ (item_word line.it ∷ [])) =
        rw reading.in_out (kept_next stores start words count (item_word line.it) counted) in
        record {
          room = line.room;
          passed = reading.passed ++ (line.it ∷ []);
          as_many = simp length-append (omega (arith, reading.as_many));
          in_out = rw (map-append item_word reading.passed (line.it ∷ [])) (line.kept_word ∙ behind);
          came =
              rw line.comes_past
              (came_next reading.came (whole_line text at end r ensured e) (rw (line.read-item, line.may-follow)));
        }

-- ---- what reading answers, by what was tested

-- an accepted text is stored with its count in front
stored_items : (out : List ℕ) (answer : Answer (List Item)) (count : ℕ) {out' : List ℕ} → accepted count ≡ how_many answer →
    ((items : List Item) → answer ≡ accepted items → out' ≡ sets out 1 (map item_word items)) →
    storing_items out answer ≡ record { reply = Done; buffer = set out' 0 count }
stored_items out (accepted items) count e left =
    let all : length items ≡ count = cc in
    rw (left items refl, all, set_before out 0 count 1 (map item_word items) (omega arith))
stored_items out (refused number place) count e left = absurd (let z : ◌≡◌ {A = ℕ} 0 1 = cc in omega arith)

no_items : (out : List ℕ) (answer : Answer (List Item)) (number place : ℕ) → refused number place ≡ how_many answer →
    storing_items out answer ≡ refusing number place out
no_items out (accepted items) number place e = absurd (let z : ◌≡◌ {A = ℕ} 0 1 = cc in omega arith)
no_items out (refused n p) number place e =
    let same_number : number ≡ n = cc in
    let same_place : place ≡ p = cc in
    rw (same_number, same_place)

module _ (text out : List ℕ) where
  pub schema_short : length out < 142337 → read_schema_in text out ≡ refusing 31 0 out
  unfolding read_schema_in
  schema_short h = rw (lt-leb 142337 (length out) h)

  module _ (long : 142337 ≤ length out) where
    pub schema_refused : {number place : ℕ} {out' : List ℕ} → refused number place ≡ how_many (read_schema text) → out' ≡ out →
        read_schema_in text out ≡ refusing number place out'
    unfolding read_schema_in
    schema_refused {number} {place} e same = rw (same, le-leb 142337 (length out) long) (no_items out (read_schema text) number place e)

    -- judged in one pass, and stored in another
    pub schema_stored : {count : ℕ} {out₁ out₂ : List ℕ} → accepted count ≡ how_many (read_schema text) → out₁ ≡ out →
        ((items : List Item) → read_schema text ≡ accepted items → out₂ ≡ sets out₁ 1 (map item_word items)) →
        read_schema_in text out ≡ record { reply = Done; buffer = set out₂ 0 count }
    unfolding read_schema_in
    schema_stored {count} e same left = rw (le-leb 142337 (length out) long) (stored_items out (read_schema text) count e (rw same at left))
