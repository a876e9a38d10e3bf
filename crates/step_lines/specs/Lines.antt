-- What a line of a step text was read as.
use Rattle.std.specs.Prelude.{ℕ, suc, ◌-◌, ◌<◌, ◌≡◌, true, List, length, drop, Option as Maybe, Some, None}
use Rattle.std.proofs.Math.Option.{Option, none, some}
use Rattle.rules.specs.Text.{bytes}
use Rattle.rules.specs.Tries.{step_of, is_root}
use Rattle.rules.specs.Listing.{place_in, ◌>>=◌}
use Rattle.rules.proofs.StepLaws.{Each}
use Rattle.rules.specs.Steps.{Step, root, none_line, attr, union_line, drop_line, full, in_line, set, rec}
use Rattle.step_lines.specs.declared.Step.{Step as StepRead}
use Rattle.step_lines.specs.declared.Step.TheVariants.{Root, None as Nothing, Attr, Union, Drop, Full, In, Set, Rec}

-- a step; the names of `rec` stand at the end of 32, last first
abbrev pub step_read : StepRead → List ℕ → Option Step
step_read (Root r) names = some (root r)
step_read Nothing names = some none_line
step_read (Attr f) names = some (attr f)
step_read Union names = some union_line
step_read Drop names = some drop_line
step_read (Full t) names = some (full t)
step_read In names = some in_line
step_read Set names = some set
step_read (Rec count) names = some (rec (drop (32 - count) names))

-- the step of a line, if it is one
abbrev pub line_read : Maybe StepRead → List ℕ → Option Step
line_read (Some step) names = step_read step names
line_read None names = none

-- how many names a step has
abbrev pub name_count : StepRead → ℕ
name_count (Root r) = 0
name_count Nothing = 0
name_count (Attr f) = 0
name_count Union = 0
name_count Drop = 0
name_count (Full t) = 0
name_count In = 0
name_count Set = 0
name_count (Rec count) = count

abbrev pub names_read : Maybe StepRead → ℕ
names_read (Some step) = name_count step
names_read None = 0

-- a step without names, whatever is kept beside it
pub record Bare (r : Maybe StepRead) (step : Option Step) : Type 0 where
  pub alone : names_read r ≡ 0
  pub read : (names : List ℕ) → length names ≡ 32 → line_read r names ≡ step

-- the root of a variable's letter
abbrev pub var_step : List ℕ → Option Step
var_step name = place_in (bytes "parc") name >>= (λ kind. some (root (step_of (suc kind) 0)))

-- what a step names is a root or fields
abbrev pub GoodRead : StepRead → List ℕ → Type 0
GoodRead (Root r) names = is_root r ≡ true
GoodRead Nothing names = Unit
GoodRead (Attr f) names = f < 65536
GoodRead Union names = Unit
GoodRead Drop names = Unit
GoodRead (Full t) names = Unit
GoodRead In names = Unit
GoodRead Set names = Unit
GoodRead (Rec count) names = Each (λ f. f < 65536) (drop (32 - count) names)
