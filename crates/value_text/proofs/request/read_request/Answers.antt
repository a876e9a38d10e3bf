-- `value_text::request::read_request` meets its contract: the first line is read, and then the context behind it.
use Prim.Native.Nat.{ℕ, ◌<◌}
use native.Mathlib.Omega.{arith}
use mathlib.Core.Option.{some}
use mathlib.Core.Path.{◌≡◌, sym, ap, ◌∙◌}
use lib.ListN.{length, take}
use lib.Seq.{length-take-le}
use Rattle.std.proofs.lemmas.Result.{err_from_is_err_and}
use Rattle.rules.specs.Text.{fields_of}
use Rattle.rules.specs.ValueTexts.{asked_of}
use Rattle.text.specs.declared.Line.TheVariants.{Whole}
use Rattle.text.proofs.Laws.{whole_within}
use Rattle.value_text.specs.Asking.{asked_in, asked_read}
use Rattle.value_text.specs.AskLaws.{by_parts, request_short, request_cut, request_bad, request_done, request_refused}
use Rattle.value_text.proofs.request.read_request.Goals as goal
use Rattle.value_text.proofs.request.read_request.Goals.{In-Some, In-Whole}

-- the LF that was found stands in the text
within : (c : In-Whole) → c.in-Whole.end < length c.args.text.now
within c = (whole_within c.args.text.now 0 _ _ c.at.ensures c.in-Whole.is).1

-- what the first line was read as
line_read : (c : In-Some) →
    asked_of (fields_of (take c.in-Whole.end c.args.text.now))
    ≡ some (asked_in c.in-Some.request)
line_read c = sym c.parse_request.ensures ∙ ap asked_read c.in-Some.is

pub returns-then-out-lt-WORDS : goal.returns-then-out-lt-WORDS
returns-then-out-lt-WORDS c = let a = c.args in by_parts (request_short a.text.now a.out.now c.if-out-lt-WORDS.true)

pub returns-in_default : goal.returns-in_default
returns-in_default c =
    let a = c.args in
    let unended : (end : ℕ) → c.at.result ≡ Whole end → ⊥ = c.in_default.not-Whole in
    by_parts (request_cut a.text.now a.out.now c.if-out-lt-WORDS.false c.at.ensures unended)

pub slice_bounds-parse_request-end : goal.slice_bounds-parse_request-end
slice_bounds-parse_request-end c = sym (length-take-le _ _ (omega (arith, within (goal.at.slice_bounds-parse_request-end c).In-Whole)))

pub returns-in_default-parse_request : goal.returns-in_default-parse_request
returns-in_default-parse_request c =
    let a = c.args in
    by_parts
    (request_bad a.text.now a.out.now c.if-out-lt-WORDS.false c.at.ensures c.in-Whole.is
    (sym c.parse_request.ensures ∙ ap asked_read c.in_default-parse_request.is))

pub overflow_add-end : goal.overflow_add-end
overflow_add-end c = omega (arith, within (goal.at.overflow_add-end c).In-Whole)

pub read_value-requires : goal.read_value-requires
read_value-requires c = (omega (arith, within (goal.at.read_value-requires c).In-Whole), omega arith)

pub returns-in_err-read_value : goal.returns-in_err-read_value
returns-in_err-read_value c =
    let a = c.args in
    let why = c.in_err-read_value.field-0.0 in
    let handed = err_from_is_err_and c.from_residual.result c.from_residual.ensures.1 in
    let (reply, buffer) =
    by_parts
    (request_refused a.text.now a.out.now c.if-out-lt-WORDS.false c.at.ensures c.in-Whole.is (line_read (goal.at.returns-in_err-read_value c).In-Some)
    (sym c.read_value.ensures.0 ∙ c.in_err-read_value.was)) in
    rw (handed.1, handed.2) (reply, c.read_value.ensures.1 ∙ buffer)

pub returns : goal.returns
returns c =
    let a = c.args in
    let (reply, buffer) =
    by_parts
    (request_done a.text.now a.out.now c.if-out-lt-WORDS.false c.at.ensures c.in-Whole.is (line_read (goal.at.returns c).In-Some)
    (sym c.read_value.ensures.0 ∙ c.in_ok-read_value.was)) in
    (reply, c.read_value.ensures.1 ∙ buffer)
