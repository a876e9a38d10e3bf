-- Laws of a store that was read, for those who call `read_store`: its words are those of entities, and fit a state. No contract cites this file.
use Rattle.std.specs.Prelude.{ℕ, ◌+◌, ◌*◌, ◌≤◌, ◌<◌, List, [], ◌∷◌, ◌++◌, ◌≡◌, refl, eqb, length, drop, get_or}
use Rattle.std.proofs.Common.{arith, sym, ap, ◌∙◌, length-append}
use Rattle.std.proofs.Math.Option.{Option, none, some}
use Rattle.std.proofs.lemmas.List.Edits.{sets, sets-eq}
use Rattle.std.proofs.Math.Seq.{length-sets, take-append_seam}
use Rattle.rules.specs.Facts.{by_test, by_option, compared, accepted_same, then_accepted}
use Rattle.rules.specs.Numbers.{Answer, accepted, refused}
use Rattle.rules.specs.Lines.{Folded, folded, fold_lines}
use Rattle.rules.proofs.ListingLaws.{refused_not}
use Rattle.rules.specs.Text.{lines_of, fields_of, LF}
use Rattle.rules.proofs.TextLaws.{joined_by, joined_parted}
use Rattle.rules.specs.ValueTexts.{StoreLine, StoreRead, EntityRead, store_read, entities_in, store_line_of, store_line, unordered_in, least_of, read_store}
use Rattle.words.specs.Runs.{words_in}
use Rattle.words.specs.RunLaws.{held_count}
use Rattle.words.specs.Replies.{Done, Refused}
use Rattle.store_text.specs.LineLaws.{line_formed}
use Rattle.store_text.specs.Words.{store_words}
use Rattle.store_text.specs.Entities.{All, EntityKept, HoldsEntities}
use Rattle.store_text.specs.ReachedLaws.{StoreReached, start, store_of, entities, StoreStep, stopped, went, step}
use Rattle.store_text.specs.ReadLaws.{all_entities, store_short, store_long, by_text}
use Rattle.store_text.specs.Outcomes.{read_store_in}

-- what lines come to, and how many bytes they have
record Come (s : StoreReached) (bytes : ℕ) (after : StoreRead) : Type 0 where
  next : StoreReached
  same : after ≡ store_of next
  kept : All EntityKept (entities next)
  long : 4 * length (store_words (entities next)) ≤ 4 * length (store_words (entities s)) + bytes

line_comes : (place : ℕ) (line : List ℕ) (s : StoreReached) (after : StoreRead) → All EntityKept (entities s) → store_line place line (store_of s) ≡ accepted after →
    Come s (length line + 1) after
line_comes place line s after kept e = go (store_line_of (fields_of line)) refl
  where
    by : (said : StoreLine) → store_line_of (fields_of line) ≡ some said → StoreStep s said → Come s (length line + 1) after
    by said q (stopped not_taken other) = refused_not 1 place after (sym (rw (q, not_taken)) ∙ e)
    by said q (went next taken) = record {
      next = next;
      same = sym (accepted_same (store_of next) after (sym (rw (q, taken.of)) ∙ e));
      kept = taken.kept;
      long = simp (taken.words, length-append) (omega (arith, (line_formed line q).0));
    }

    go : (o : Option StoreLine) → store_line_of (fields_of line) ≡ o → Come s (length line + 1) after
    go none q = refused_not 1 place after (sym (rw q) ∙ e)
    go (some said) q = by said q (step s said kept (line_formed line q).1)

-- no line is left
ended : (place : ℕ) (s : StoreReached) (all : Folded StoreRead) (bytes : ℕ) → All EntityKept (entities s) → accepted (folded place (store_of s)) ≡ accepted all →
    Come s bytes all.state
ended place s all bytes kept e = record {
  next = s;
  same = ap (λ (f : Folded StoreRead). f.state) (sym (accepted_same (folded place (store_of s)) all e));
  kept = kept;
  long = omega arith;
}

-- all lines of a text
lines_come : (lines : List (List ℕ)) (place : ℕ) (s : StoreReached) {all : Folded StoreRead} → All EntityKept (entities s) →
    fold_lines store_line place lines (store_of s) ≡ accepted all → Come s (length (joined_by LF lines)) all.state
unfolding fold_lines joined_by
lines_come [] place s {all} kept e = ended place s all 0 kept e
lines_come (line ∷ []) place s {all} kept e =
    by_test (eqb (length line) 0)
    (λ t. ended place s all (length line) kept (rw t at e))
    (λ t. refused_not 1 place all (rw t at e))
lines_come (line ∷ next ∷ lines) place s {all} kept e =
    let (after, read, rest) = then_accepted (store_line place line (store_of s)) _ e in
    let first = line_comes place line s after kept read in
    let others = lines_come (next ∷ lines) (place + 1) first.next {all = all} first.kept (rw first.same at rest) in
    record {
      next = others.next;
      same = others.same;
      kept = others.kept;
      long = omega (arith, first.long, others.long, length-append line (LF ∷ joined_by LF (next ∷ lines)));
    }

-- what a text that is accepted gives
pub store_entities : (text : List ℕ) (es : List EntityRead) → read_store text ≡ accepted es → All EntityKept es × (4 * length (store_words es) ≤ length text)
unfolding store_words All
store_entities text es e =
    let (all, read, judged) = then_accepted (fold_lines store_line 0 (lines_of text) (store_read [] none)) _ e in
    let come = lines_come (lines_of text) 0 start {all = all} tt read in
    let there : entities_in all.state ≡ entities come.next = rw come.same (all_entities come.next) in
    let bytes : length (joined_by LF (lines_of text)) ≡ length text = ap length (joined_parted LF text) in
    by_option (least_of (unordered_in 0 (entities_in all.state)))
    (λ q.
    let same : entities come.next ≡ es = sym there ∙ accepted_same (entities_in all.state) es (rw q at judged) in
    rw (← same) (come.kept, omega (arith, come.long, bytes)))
    (λ p q. refused_not 1 p es (rw q at judged))

-- a state that holds words with their count in front
held : (out words : List ℕ) → length words < length out → words_in (sets out 0 (length words ∷ words)) ≡ words
held out words h =
    let state : sets out 0 (length words ∷ words) ≡ length words ∷ (words ++ drop (0 + length (length words ∷ words)) out) =
    sets-eq (length words ∷ words) out 0 (omega arith) in
    rw (held_count out words refl h, state) (take-append_seam words (drop (0 + length (length words ∷ words)) out))

-- What is lent is done: a store was read, and the state holds its words.
pub record StoreHeld (text out : List ℕ) : Type 0 where
  pub es : List EntityRead
  pub read : read_store text ≡ accepted es
  pub holds : HoldsEntities (words_in (read_store_in text out).buffer) es
  pub few : get_or (read_store_in text out).buffer 0 0 ≤ 16384
  pub long : 16385 ≤ length (read_store_in text out).buffer

pub store_held : (text out : List ℕ) → (read_store_in text out).reply ≡ Done → StoreHeld text out
store_held text out done =
    compared (length out) 16385
    (λ short. other 31 0 (rw (store_short text out short) at done))
    (λ long.
    compared 65536 (length text)
    (λ over. other 15 0 (rw (store_long text out long over) at done))
    (λ few. go long few (read_store text) refl))
  where
    other : (number place : ℕ) → Refused number place ≡ Done → StoreHeld text out
    other number place e = absurd (let z : ◌≡◌ {A = ℕ} 0 1 = cc in omega arith)

    go : 16385 ≤ length out → length text ≤ 65536 → (answer : Answer (List EntityRead)) → read_store text ≡ answer → StoreHeld text out
    go long few (refused number place) q = other number place (rw (by_text text out long few (refused number place) q) at done)
    go long few (accepted es) q =
        let (kept, size) = store_entities text es q in
        let room : length (store_words es) < length out = omega arith in
        let buffer : (read_store_in text out).buffer ≡ sets out 0 (length (store_words es) ∷ store_words es) =
        rw (by_text text out long few (accepted es) q) in
        record {
          es = es;
          read = q;
          holds = record { same = rw buffer (held out (store_words es) room); kept = kept };
          few = rw (buffer, held_count out (store_words es) refl room) (omega arith);
          long = rw (buffer, length-sets out 0 (length (store_words es) ∷ store_words es)) long;
        }
