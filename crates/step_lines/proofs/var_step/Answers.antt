-- `step_lines::var_step` meets its contract: the place of the letter is below 4.
use native.Mathlib.Omega.{arith}
use mathlib.Core.Path.{sym, ap, ◌∙◌}
use Rattle.rules.specs.Text.{bytes}
use Rattle.text.specs.Answers.{number_of}
use Rattle.text.proofs.FieldLaws.{place_within}
use Rattle.step_lines.proofs.var_step.Goals as goal

pub overflow_mul-result : goal.overflow_mul-result
overflow_mul-result c = omega (arith, place_within (bytes "parc") _ _ (sym c.letter_place.ensures ∙ ap number_of c.in_ok-place.was))

pub overflow_add-result : goal.overflow_add-result
overflow_add-result c = omega (arith, place_within (bytes "parc") _ _ (sym c.letter_place.ensures ∙ ap number_of c.in_ok-place.was))
