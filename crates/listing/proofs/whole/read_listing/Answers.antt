-- `listing::whole::read_listing` meets its contract: the words that were read are copied with their count in front.
use Prim.Native.Nat.{ℕ, ◌≤◌, ◌<◌}
use lib.Seq.{length-take-le, sets}
use Rattle.listing.specs.ReadLaws.{read_short, read_refused, read_empty, read_stored}
use Rattle.words.specs.RunLaws.{copied, by_parts}
use native.Mathlib.Omega.{arith}
use mathlib.Core.Bool.{false}
use mathlib.Core.List.{List, []}
use mathlib.Core.Path.{◌≡◌, ap, ◌∙◌}
use lib.ListN.{length, drop, length-drop}
use Rattle.rules.specs.Numbers.{accepted}
use Rattle.rows.specs.States.{form_of, words_of}
use Rattle.rows.specs.StateLaws.{kind_room, kind_most}
use Rattle.listing.specs.Reads.{form_for, rows_by, row_words}
use Rattle.words.specs.Runs.{stored}
use Rattle.std.proofs.lemmas.Result.{err_from_is_err_and}
use Rattle.listing.proofs.whole.read_listing.Goals as goal
use Rattle.listing.proofs.whole.read_listing.Goals.{After-limits, In_ok-count, Joined-else-count-eq0, else-count-eq0-via-then-count-eq0+else-eq, else-count-eq0-via-else-count-eq0}

-- the limits are those of the kind
given-form : (c : After-limits) → form_for c.limits.result ≡ form_of c.args.kind
given-form c = let (single, entries, nodes) = c.limits.ensures in λ i. record { single = single i; entries = entries i; nodes = nodes i }

pub returns-then-out-words : goal.returns-then-out-words
returns-then-out-words c = let a = c.args in by_parts (read_short a.kind a.text.now a.out.now (omega arith))

-- what was read, where it is rows: their words are stored, and fit a state of the kind
words_read : (c : In_ok-count) → accepted (stored c.in_ok-count.count c.read_rows.new.rows) ≡ row_words (rows_by c.limits.result c.args.text.now)
words_read c = rw c.in_ok-count.was at c.read_rows.ensures.rows_after

count_fits : (c : In_ok-count) → (c.in_ok-count.count < words_of c.args.kind) × (words_of c.args.kind ≤ length c.read_rows.new.rows)
count_fits c =
    let few = rw c.in_ok-count.was at c.read_rows.ensures.result_bound in
    (omega (arith, few, kind_room c.args.kind), omega (arith, c.read_rows.auto.rows, kind_most c.args.kind))

pub returns-then-eq : goal.returns-then-eq
returns-then-eq c =
    let a = c.args in
    let none_read = rw c.if-count-eq0.true at (words_read (goal.at.returns-then-eq c).In_ok-count) in
    by_parts (read_empty a.kind a.text.now a.out.now (omega arith) (given-form (goal.at.returns-then-eq c).After-limits) none_read (grind (arith, c.eq.ensures, c.if-eq.true)))

pub returns-in_err-count : goal.returns-in_err-count
returns-in_err-count c =
    let a = c.args in
    let handed = err_from_is_err_and c.from_residual.result c.from_residual.ensures.1 in
    rw (handed.1, handed.2)
    (by_parts (read_refused a.kind a.text.now a.out.now (omega arith) (given-form (goal.at.returns-in_err-count c).After-limits) (rw c.in_err-count.was at c.read_rows.ensures.rows_after)))

-- where no word is stored, the kind is not that of one entry
some_words : (c : Joined-else-count-eq0) → ((c.in_ok-count.count < words_of c.args.kind) × (words_of c.args.kind ≤ length c.read_rows.new.rows)) → stored c.in_ok-count.count c.read_rows.new.rows ≡ [] → (form_of c.args.kind).single ≡ false
some_words c (few, room) e =
    elim c.else-count-eq0.branch [
      | else-count-eq0-via-then-count-eq0+else-eq w ↦ grind (arith, w.eq.ensures, w.if-eq.false)
      | else-count-eq0-via-else-count-eq0 w ↦ absurd (w.if-count-eq0.false (omega (arith, ap length e, length-take-le c.in_ok-count.count (drop 1 c.read_rows.new.rows) (omega (arith, length-drop 1 c.read_rows.new.rows)))))
    ]

pub returns : goal.returns
returns c =
    let a = c.args in
    let (few, room) = count_fits (goal.at.returns c).In_ok-count in
    let stored-rows = by_parts (read_stored a.kind a.text.now a.out.now (omega arith) (given-form (goal.at.returns c).After-limits) (words_read (goal.at.returns c).In_ok-count) (some_words (goal.at.returns c).Joined-else-count-eq0 (few, room))) in
    (stored-rows.0, c.copy_rows.ensures ∙ ap (λ (l : List ℕ). sets a.out.now 0 l) (copied c.read_rows.new.rows _ (omega arith)) ∙ stored-rows.1)
