-- `schema_text::line::pair` meets its contract: the letter is one of three.
use native.Mathlib.Omega.{arith}
use mathlib.Core.Path.{sym, ap, ◌∙◌}
use Rattle.rules.specs.Text.{bytes}
use Rattle.text.specs.Answers.{number_of}
use Rattle.text.proofs.FieldLaws.{place_within}
use Rattle.schema_text.proofs.line.pair.Goals as goal

pub overflow_add-result : goal.overflow_add-result
overflow_add-result c = omega (arith, place_within (bytes "FLC") _ _ (sym c.letter_place.ensures ∙ ap number_of c.in_ok-place.was))
