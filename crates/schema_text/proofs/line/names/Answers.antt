-- `schema_text::line::names` meets its contract: the names that were read ascend, the first of them is kept, and the count says whether it is the
-- only one. Assumes nothing.
use Prim.Native.Nat.{ℕ, suc, ◌≤◌}
use native.Mathlib.Omega.{arith}
use mathlib.Core.List.{List, ◌∷◌}
use mathlib.Core.Option.{some}
use mathlib.Core.Path.{◌≡◌, sym}
use lib.ListN.{length, get_or}
use Rattle.rules.specs.Text.{fields_of}
use Rattle.rules.specs.Schema.{ascending}
use Rattle.text.proofs.NameLaws.{first_kept}
use Rattle.schema_text.specs.LineLaws.{named_more}
use Rattle.schema_text.proofs.line.names.Goals as goal
use Rattle.schema_text.proofs.line.names.Goals.{In_ok-count}

-- what is known of the first name
kept : (c : In_ok-count) →
    (others : List ℕ) × (ascending 0 (fields_of c.args.more.now) ≡ some (get_or c.read_names.new.names 0 0 ∷ others)) × (suc (length others) ≡ c.in_ok-count.count) × (get_or c.read_names.new.names 0 0 ≤ 65535)
kept c = first_kept c.args.more.now _ c.read_names.auto.names c.read_names.ensures c.in_ok-count.was

pub overflow_add-result : goal.overflow_add-result
overflow_add-result c = omega (arith, kept (goal.at.overflow_add-result c).In_ok-count)

pub returns : goal.returns
returns c = let (others, names, counts, most) = kept (goal.at.returns c).In_ok-count in sym (named_more _ names (omega arith))
