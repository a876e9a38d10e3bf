-- `name_table::line::key_from` meets its contract: the letter, the decimal and the name are read as `key_from` reads them.
use native.Mathlib.Omega.{arith}
use mathlib.Core.Path.{◌≡◌, refl, sym, ap, ◌∙◌}
use mathlib.Core.Option.{some}
use Rattle.rules.specs.Text.{decimal_of}
use Rattle.rules.specs.Listing.{place_in}
use Rattle.text.specs.Answers.{number_of}
use Rattle.text.proofs.Laws.{value_most}
use Rattle.text.proofs.FieldLaws.{place_within}
use Rattle.rules.specs.Names.{name_kinds}
use Rattle.name_table.proofs.line.key_from.Goals as goal
use Rattle.name_table.proofs.line.key_from.Goals.{In_ok-place, In_ok-number}

-- what the letter and the decimal were read as
kind-read : (c : In_ok-place) → place_in name_kinds c.args.kind.now ≡ some c.in_ok-place.place
kind-read c = sym c.letter_place.ensures ∙ ap number_of c.in_ok-place.was

id-read : (c : In_ok-number) → decimal_of c.args.id.now ≡ some c.in_ok-number.number
id-read c = sym c.read_decimal.ensures ∙ ap number_of c.in_ok-number.was

pub returns-in_err-place : goal.returns-in_err-place
returns-in_err-place c = rw (c.from_residual.ensures, sym c.letter_place.ensures ∙ ap number_of c.in_err-place.was) refl

pub returns-in_err-number : goal.returns-in_err-number
returns-in_err-number c =
    rw (c.from_residual-in_err-number.ensures, kind-read (goal.at.returns-in_err-number c).In_ok-place, sym c.read_decimal.ensures ∙ ap number_of c.in_err-number.was) refl

pub returns-then-not-is_name : goal.returns-then-not-is_name
returns-then-not-is_name c =
    rw (kind-read (goal.at.returns-then-not-is_name c).In_ok-place, id-read (goal.at.returns-then-not-is_name c).In_ok-number, sym c.is_name.ensures ∙ c.if-not-is_name.true)

pub overflow_mul-result : goal.overflow_mul-result
overflow_mul-result c = omega (arith, place_within name_kinds _ _ (kind-read (goal.at.overflow_mul-result c).In_ok-place))

pub overflow_add-result : goal.overflow_add-result
overflow_add-result c =
    omega (arith, place_within name_kinds _ _ (kind-read (goal.at.overflow_add-result c).In_ok-place), value_most _ _ _ c.read_decimal.ensures c.in_ok-number.was)

pub returns : goal.returns
returns c = rw (kind-read (goal.at.returns c).In_ok-place, id-read (goal.at.returns c).In_ok-number, sym c.is_name.ensures ∙ c.if-not-is_name.false)
