-- The words of proofs/WalkRowLaws.antt.
use Rattle.std.specs.Prelude.{ℕ, suc, List, [], ◌∷◌}
use Rattle.std.proofs.Math.Option.{Option, none, some}
use Rattle.rules.specs.Values.{Value, Attributes}
use Rattle.rules.specs.ValueRows.{ValueRow}
use Rattle.rules.specs.ValueRowTests.{attributes_from}
use Rattle.rules.specs.ValueRowTestLaws.{read_value}
use Rattle.rules.specs.Loading.{Met, comes_to as met_fields}
use Rattle.rules.specs.WalkRows.{MetRows}

abbrev pub row_value : ℕ → List ValueRow → Option Value
row_value d [] = none
row_value d (x ∷ rows) = some (read_value d x rows)

abbrev pub read_kept : ℕ → Option (List ValueRow) → Option Attributes
read_kept d none = none
read_kept d (some run) = some (attributes_from d run)

abbrev pub read_met : ℕ → MetRows → Met
read_met d m = met_fields m.events (read_kept d m.kept)

abbrev pub read_all : ℕ → List (Option (List ValueRow)) → List (Option Attributes)
read_all d [] = []
read_all d (kept ∷ more) = read_kept d kept ∷ read_all (suc d) more
