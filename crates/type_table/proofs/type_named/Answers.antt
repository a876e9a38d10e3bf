-- `type_table::type_named` meets its contract: what the search finds is the key's line.
use native.Mathlib.Omega.{arith}
use Prim.Native.Nat.{◌/◌, ◌%◌, ◌^◌, ◌<◌}
use mathlib.Core.Path.{◌≡◌, sym, ap, ◌∙◌}
use lib.ListN.{length, get_or}
use Rattle.rules.specs.Schema.{Item}
use Rattle.words.specs.Keys.{searched}
use Rattle.std.specs.Prelude.{Ok}
use Rattle.type_table.specs.NamedLaws.{key_inside, type_found, type_missing}
use Rattle.type_table.proofs.type_named.Goals as goal
use Rattle.type_table.proofs.type_named.Goals.{After-from, In-Ok}

-- the place that was found
found : (c : In-Ok) → searched c.args.run.now c.args.key ≡ Ok c.in-Ok.place
found c = sym c.search_key.ensures ∙ c.in-Ok.is

inside : (c : In-Ok) → c.in-Ok.place < length c.args.run.now
inside c = key_inside c.args.run.now c.args.key c.in-Ok.place (found c)

pub returns-in_default : goal.returns-in_default
returns-in_default c =
    type_missing c.args.run.now c.args.key c.in_default.field-0 (sym c.search_key.ensures ∙ c.in_default.is)

pub offset_bounds-run-place : goal.offset_bounds-run-place
offset_bounds-run-place c = omega (arith, inside (goal.at.offset_bounds-run-place c).In-Ok)

pub bounds-run-place : goal.bounds-run-place
bounds-run-place c = inside (goal.at.bounds-run-place c).In-Ok

-- the value of the line that was found
value : (c : After-from) → c.from.result.value ≡ get_or c.args.run.now c.in-Ok.place 0 / 16 % 2 ^ 36
value c = ap (λ (it : Item). it.value) c.from.ensures

pub overflow_add-result : goal.overflow_add-result
overflow_add-result c = omega (arith, value (goal.at.overflow_add-result c).After-from)

pub returns : goal.returns
returns c =
    rw (value (goal.at.returns c).After-from) (type_found c.args.run.now c.args.key c.in-Ok.place (found (goal.at.returns c).In-Ok))
