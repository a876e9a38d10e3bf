-- `text::read_names` meets its contract: the names that are passed and those from a place on are the names of the line.
use Prim.Native.Nat.{◌-◌, ◌≤◌, ◌<◌}
use native.Mathlib.Omega.{arith}
use mathlib.Core.List.{[], ◌∷◌, ◌++◌}
use mathlib.Core.Option.{some}
use mathlib.Core.Path.{◌≡◌, sym, ap, ◌∙◌}
use borrow.Author.Tests.{lt-ltb, le-ltb}
use mathlib.Core.Bool.{false}
use lib.Dec.{ltb}
use lib.ListN.{length, take, drop}
use Rattle.rules.specs.Text.{decimal_of}
use Rattle.text.specs.Answers.{number_of, NamesKept}
use Rattle.text.proofs.NameLaws.{Scanned, scanned, naming_past, naming_bad, naming_low, naming_room, naming_full, naming_next, naming_last}
use Rattle.text.proofs.Laws.{value_most}
use Rattle.text.proofs.read_names.Goals as goal
use Rattle.text.proofs.read_names.Goals.{After-scan-end, In_ok-name, Joined-count-names, then-count-names, else-count-names}

-- the field that is looked at
ends : (c : After-scan-end) → Scanned c.args.line.now c.loop-from.from c.scan-end.result
ends c = scanned c.args.line.now c.loop-from.from c.scan-end.result c.loop-from.invariant.0 c.scan-end.ensures.value

-- its number
value : (c : In_ok-name) →
    decimal_of (take (c.scan-end.result - c.loop-from.from) (drop c.loop-from.from c.args.line.now)) ≡ some c.in_ok-name.name
value c = sym c.read_decimal.ensures ∙ ap number_of c.in_ok-name.was

most : (c : In_ok-name) → c.in_ok-name.name ≤ 65535
most c = value_most _ _ _ c.read_decimal.ensures c.in_ok-name.was

-- it is kept where there is room
keeps : (c : Joined-count-names) →
    NamesKept (some (c.loop-from.invariant.2.done ++ (c.in_ok-name.name ∷ []))) c.if-count-names.names
keeps c =
    elim c.if-count-names.branch [
      | then-count-names w ↦ rw w.names-is (naming_room c.loop-from.invariant.2 c.in_ok-name.name w.if-count-names.true)
      | else-count-names w ↦ rw w.names-is (naming_full c.loop-from.invariant.2 c.in_ok-name.name w.if-count-names.false)
    ]

-- a store leaves the length
room : (c : Joined-count-names) →
    length c.if-count-names.names ≡ length c.args.names.now
room c =
    c.if-count-names.auto.names ∙ c.loop-from.invariant.1

pub slice_bounds-read_decimal-end : goal.slice_bounds-read_decimal-end
slice_bounds-read_decimal-end c = omega (arith, ends (goal.at.slice_bounds-read_decimal-end c).After-scan-end)

pub returns-in_err-name : goal.returns-in_err-name
returns-in_err-name c =
    rw c.from_residual.ensures (naming_bad c.loop-from.invariant.2 (ends (goal.at.returns-in_err-name c).After-scan-end).2 (sym c.read_decimal.ensures ∙ ap number_of c.in_err-name.was))

pub returns-then-name-least : goal.returns-then-name-least
returns-then-name-least c = naming_low c.loop-from.invariant.2 (ends (goal.at.returns-then-name-least c).After-scan-end).2 (value (goal.at.returns-then-name-least c).In_ok-name) c.if-name-least.true

pub returns-then-end-line : goal.returns-then-end-line
returns-then-end-line c =
    let last : ltb c.scan-end.result (length c.args.line.now) ≡ false = le-ltb c.scan-end.result (length c.args.line.now) (omega arith) in
    naming_last c.loop-from.invariant.2 (ends (goal.at.returns-then-end-line c).After-scan-end).2 (value (goal.at.returns-then-end-line c).In_ok-name) c.if-name-least.false c.if-count-names.names (keeps (goal.at.returns-then-end-line c).Joined-count-names) (rw last)

pub overflow_add-least : goal.overflow_add-least
overflow_add-least c = omega (arith, most (goal.at.overflow_add-least c).In_ok-name)

pub loop-from-preserved : goal.loop-from-preserved
loop-from-preserved c =
    let inside : c.scan-end.result < length c.args.line.now = omega (arith, ends (goal.at.loop-from-preserved c).After-scan-end) in (
      omega arith,
      room (goal.at.loop-from-preserved c).Joined-count-names,
      naming_next c.loop-from.invariant.2 (ends (goal.at.loop-from-preserved c).After-scan-end).2 (value (goal.at.loop-from-preserved c).In_ok-name) c.if-name-least.false c.if-count-names.names (keeps (goal.at.loop-from-preserved c).Joined-count-names) (omega (arith, ends (goal.at.loop-from-preserved c).After-scan-end)) (rw (lt-ltb c.scan-end.result (length c.args.line.now) inside)),
    )

pub returns : goal.returns
returns c = naming_past c.loop-from.invariant.2 c.loop-from-test.false
