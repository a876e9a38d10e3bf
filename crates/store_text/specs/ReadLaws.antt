-- Laws of reading the lines of a store. No contract cites this file.
use Rattle.std.specs.Prelude.{ℕ, ◌+◌, ◌-◌, ◌*◌, ◌^◌, ◌≤◌, ◌<◌, List, [], ◌∷◌, ◌++◌, ◌≡◌, refl, length, take, drop, set, Some, None}
use Rattle.std.proofs.Common.{arith, sym, ap, ◌∙◌, length-set}
use Rattle.std.proofs.Math.Nat.{zero-add}
use Rattle.std.proofs.Math.Option.{Option, none, some, none-ne-some, some-injective}
use borrow.Author.Tests.{le-leb, lt-leb}
use Rattle.std.proofs.lemmas.List.Edits.{sets}
use Rattle.rules.specs.Numbers.{Answer, accepted, refused, and_then}
use Rattle.rules.specs.Lines.{Folded, fold_lines}
use Rattle.rules.specs.Text.{lines_of, fields_of}
use Rattle.rules.specs.ValueTexts.{StoreLine, StoreRead, EntityRead, store_read, entities_in, store_line_of, of_store, store_line, store_in_order, read_store}
use Rattle.text.specs.Answers.{line_at}
use Rattle.text.proofs.Laws.{whole_line, cut_line}
use Rattle.text.proofs.FoldLaws.{CameTo, came_start, came_end, came_cut, came_refused, came_next}
use Rattle.text.specs.declared.Line.{Line}
use Rattle.text.specs.declared.Line.TheVariants.{Whole}
use Rattle.words.specs.Runs.{stored, refusing}
use Rattle.words.specs.RunLaws.{stored_next}
use Rattle.words.specs.Replies.{Done}
use Rattle.values.specs.Lawful.{levels_in}
use Rattle.store_text.specs.LineLaws.{line_formed}
use Rattle.store_text.specs.Words.{store_words}
use Rattle.store_text.specs.Entities.{All, EntityKept, OrderFound}
use Rattle.store_text.specs.Standings.{StoreSofar, standing, standing_behind}
use Rattle.store_text.specs.ReachedLaws.{StoreReached, start, behind, store_of, entities, standing_of, StoreStep, stopped, went, step}
use Rattle.store_text.specs.Outcomes.{TextJudged, store_given, storing_store, read_store_in}

-- ---- a line

-- a line that is not taken is 1
line_stopped : (place : ℕ) (line : List ℕ) (s : StoreReached) → All EntityKept (entities s) → none ≡ standing_behind (standing_of s) (store_line_of (fields_of line)) →
    store_line place line (store_of s) ≡ refused 1 place
line_stopped place line s kept e = go (store_line_of (fields_of line)) refl e
  where
    by : (said : StoreLine) → none ≡ standing_behind (standing_of s) (some said) → StoreStep s said → of_store said (store_of s) ≡ none
    by said e (stopped not_taken q) = not_taken
    by said e (went next taken) = absurd (none-ne-some (standing_of next) (e ∙ taken.stands))

    go : (o : Option StoreLine) → store_line_of (fields_of line) ≡ o → none ≡ standing_behind (standing_of s) o → store_line place line (store_of s) ≡ refused 1 place
    go none q e = rw q
    go (some said) q e = rw (q, by said e (step s said kept (line_formed line q).1))

-- a line that is taken
pub record LineEntered (place : ℕ) (line : List ℕ) (s : StoreReached) (after : StoreSofar) : Type 0 where
  pub next : StoreReached
  pub of : store_line place line (store_of s) ≡ accepted (store_of next)
  pub stands : standing_of next ≡ after
  pub words : store_words (entities next) ≡ store_words (entities s) ++ (after.last ∷ [])
  pub kept : All EntityKept (entities next)
  pub long : 3 ≤ length line

line_taken : (place : ℕ) (line : List ℕ) (s : StoreReached) (after : StoreSofar) → All EntityKept (entities s) →
    some after ≡ standing_behind (standing_of s) (store_line_of (fields_of line)) → LineEntered place line s after
line_taken place line s after kept e = go (store_line_of (fields_of line)) refl e
  where
    by : (said : StoreLine) → store_line_of (fields_of line) ≡ some said → some after ≡ standing_behind (standing_of s) (some said) → StoreStep s said → LineEntered place line s after
    by said q e (stopped not_taken none_there) = absurd (none-ne-some after (sym none_there ∙ sym e))
    by said q e (went next taken) =
        let same : standing_of next ≡ after = some-injective (standing_of next) after (sym taken.stands ∙ sym e) in
        record {
          next = next;
          of = rw (q, taken.of);
          stands = same;
          words = taken.words ∙ rw same;
          kept = taken.kept;
          long = (line_formed line q).0;
        }

    go : (o : Option StoreLine) → store_line_of (fields_of line) ≡ o → some after ≡ standing_behind (standing_of s) o → LineEntered place line s after
    go none q e = absurd (none-ne-some after (sym e))
    go (some said) q e = by said q e (step s said kept (line_formed line q).1)

-- ---- reading from line to line

-- the lines that were passed came to the entities whose words are stored
pub record ReadingStore (text words levels : List ℕ) (last next len count at : ℕ) : Type 0 where
  pub words_length : length words ≡ 16385
  pub levels_length : length levels ≡ 16385
  pub few : len ≤ count
  pub room : 4 * count ≤ at
  pub sofar : StoreReached
  pub came : CameTo store_line (store_read [] none) text at count (store_of sofar)
  pub stands : standing last next (levels_in (take len levels)) ≡ standing_of sofar
  pub words_stored : stored count words ≡ store_words (entities sofar)
  pub kept : All EntityKept (entities sofar)

pub reading_none : (text words levels : List ℕ) → length words ≡ 16385 → length levels ≡ 16385 → ReadingStore text words levels (2 ^ 35) 0 0 0 0
unfolding store_words All
reading_none text words levels w l = record {
  words_length = w;
  levels_length = l;
  few = omega arith;
  room = omega arith;
  sofar = start;
  came = came_start store_line (store_read [] none) text;
  stands = refl;
  words_stored = refl;
  kept = tt;
}

pub all_entities : (s : StoreReached) → entities_in (store_of s) ≡ entities s
all_entities start = refl
all_entities (behind es e) = refl

module _ {text words levels : List ℕ} {last next len count at : ℕ} (reading : ReadingStore text words levels last next len count at) where
  -- what the text gives, by what its lines come to
  given : {answer : Answer (Folded StoreRead)} → fold_lines store_line 0 (lines_of (drop 0 text)) (store_read [] none) ≡ answer →
      read_store text ≡ and_then answer (λ all. store_in_order (entities_in all.state))
  given e = rw e

  -- no line is left
  pub reading_all : length text ≤ at → length text ≤ 65536 → TextJudged text words count
  reading_all h short = record {
    es = entities reading.sofar;
    holds = record { same = reading.words_stored; kept = reading.kept };
    given = given (came_end reading.came h) ∙ rw (all_entities reading.sofar);
    most = omega (arith, reading.room, reading.came.inside);
  }

  -- the next line has no LF
  pub reading_cut : {r : Line} → r ≡ line_at text at → ((end : ℕ) → r ≡ Whole end → ⊥) → at < length text → read_store text ≡ refused 1 count
  reading_cut {r} ensured unended more = given (came_cut reading.came more (cut_line text at r ensured unended))

  module _ {end : ℕ} {r : Line} (ensured : r ≡ line_at text at) (e : r ≡ Whole end) where
    abbrev line : List ℕ
    line = take (end - at) (drop at text)

    -- the next line is not taken
    pub reading_stopped : none ≡ standing_behind (standing last next (levels_in (take len levels))) (store_line_of (fields_of line)) → read_store text ≡ refused 1 count
    reading_stopped not_taken =
        given
        (came_refused reading.came (whole_line text at end r ensured e)
        (line_stopped count line reading.sofar reading.kept (rw reading.stands at not_taken)))

    -- or it is
    pub reading_next : {levels' : List ℕ} {word least len' : ℕ} → length text ≤ 65536 → length levels' ≡ length levels → len' ≤ len + 1 →
        some (standing word least (levels_in (take len' levels'))) ≡ standing_behind (standing last next (levels_in (take len levels))) (store_line_of (fields_of line)) →
        ReadingStore text (set words (count + 1) word) levels' word least len' (count + 1) (end + 1)
    reading_next {levels'} {word} {least} {len'} short same few taken =
        let to = whole_line text at end r ensured e in
        let took = line_taken count line reading.sofar (standing word least (levels_in (take len' levels'))) reading.kept (rw reading.stands at taken) in
        record {
          words_length = rw length-set reading.words_length;
          levels_length = same ∙ reading.levels_length;
          few = omega (arith, reading.few);
          room = omega (arith, reading.room, took.long, to.ends);
          sofar = took.next;
          came = came_next reading.came to took.of;
          stands = sym took.stands;
          words_stored =
              stored_next words count word (omega (arith, reading.words_length, reading.room, to.within, to.ends))
              ∙ rw reading.words_stored (sym took.words);
          kept = took.kept;
        }

-- ---- the order of elements, once every line has passed

-- a line was refused
pub order_refused : (text : List ℕ) {number place : ℕ} → read_store text ≡ refused number place → refused number place ≡ store_given text
order_refused text e = rw e

module _ {text words : List ℕ} {count : ℕ} (passed : TextJudged text words count) where
  -- the first element out of order, or none
  pub order_broken : {n : ℕ} → OrderFound (stored count words) (Some n) → refused 1 n ≡ store_given text
  order_broken found = rw (passed.given, found.least passed.es passed.holds, zero-add)

  pub order_kept : OrderFound (stored count words) None → accepted (stored count words) ≡ store_given text
  order_kept found = rw (passed.given, found.least passed.es passed.holds) (ap accepted passed.holds.same)

-- ---- what reading answers, by what was tested

module _ (text out : List ℕ) where
  pub store_short : length out < 16385 → read_store_in text out ≡ refusing 31 0 out
  unfolding read_store_in
  store_short h = rw (lt-leb 16385 (length out) h)

  module _ (long : 16385 ≤ length out) where
    pub store_long : 65536 < length text → read_store_in text out ≡ refusing 15 0 out
    unfolding read_store_in
    store_long h = rw (le-leb 16385 (length out) long, lt-leb (length text) 65536 h)

    module _ (few : length text ≤ 65536) where
      pub by_text : (answer : Answer (List EntityRead)) → read_store text ≡ answer → read_store_in text out ≡ storing_store out answer
      unfolding read_store_in
      by_text answer e = rw (le-leb 16385 (length out) long, le-leb (length text) 65536 few, e)

      pub store_refused : {number place : ℕ} → refused number place ≡ store_given text → read_store_in text out ≡ refusing number place out
      store_refused {number} {place} e = go (read_store text) refl
        where
          go : (answer : Answer (List EntityRead)) → read_store text ≡ answer → read_store_in text out ≡ refusing number place out
          go (accepted es) q = absurd (let other : refused number place ≡ accepted (store_words es) = e ∙ rw q in let z : ◌≡◌ {A = ℕ} 0 1 = cc in omega arith)
          go (refused n p) q =
              let same : refused number place ≡ and_then (refused n p) (λ es. accepted (store_words es)) = e ∙ rw q in
              let same_number : n ≡ number = cc in
              let line : p ≡ place = cc in
              by_text (refused n p) q ∙ rw (same_number, line)

      pub store_stored : (words : List ℕ) → accepted words ≡ store_given text → read_store_in text out ≡ record { reply = Done; buffer = sets out 0 (length words ∷ words) }
      store_stored words e = go (read_store text) refl
        where
          go : (answer : Answer (List EntityRead)) → read_store text ≡ answer → read_store_in text out ≡ record { reply = Done; buffer = sets out 0 (length words ∷ words) }
          go (accepted es) q =
              let other : accepted words ≡ accepted (store_words es) = e ∙ rw q in
              let same : words ≡ store_words es = cc in
              by_text (accepted es) q ∙ rw same
          go (refused n p) q = absurd (let other : accepted words ≡ refused n p = e ∙ rw q in let z : ◌≡◌ {A = ℕ} 0 1 = cc in omega arith)
