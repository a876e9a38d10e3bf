-- `batch_rows::lent::write_rows` meets its contract: the rows up to a place are those of the words.
use Rattle.std.proofs.Common.{◌+◌, ◌≡◌, get_or, set, take, map, arith, refl, sym, ap, ◌∙◌, take_all}
use lib.ListN.{length-map, get_or-map}
use mathlib.Core.List.{List}
use Rattle.values.specs.declared.request.EntityRequest.{EntityRequest}
use Rattle.batch_rows.specs.Rows.{request_of, begins}
use Rattle.batch_rows.specs.RowLaws.{same_request, copy_next, copy_begins}
use Rattle.batch_rows.proofs.lent.write_rows.Goals as goal

pub loop-i-init : goal.loop-i-init
loop-i-init c = refl

pub loop-i-preserved : goal.loop-i-preserved
loop-i-preserved c =
    let out = c.args.out.now in
    let rows = map request_of c.args.words.now in
    let many = length-map c.args.words.now request_of in
    let row_is : c.from.result ≡ get_or rows c.loop-i.i (request_of 0) =
    same_request c.from.result (get_or c.args.words.now c.loop-i.i 0) c.from.ensures.0 c.from.ensures.1 ∙ sym (get_or-map request_of c.args.words.now c.loop-i.i 0) in
    ap (λ (r : EntityRequest). set c.loop-i.out c.loop-i.i r) row_is
    ∙ ap (λ (l : List EntityRequest). set l c.loop-i.i (get_or rows c.loop-i.i (request_of 0))) (c.loop-i.invariant ∙ sym (copy_begins out rows c.loop-i.i (omega (arith, many, c.loop-i-test.true))))
    ∙ copy_next out rows c.loop-i.i (request_of 0) (omega (arith, c.requires, c.loop-i-test.true)) (omega (arith, many, c.loop-i-test.true))
    ∙ copy_begins out rows (c.loop-i.i + 1) (omega (arith, many, c.loop-i-test.true))

pub returns : goal.returns
returns c =
    let rows = map request_of c.args.words.now in
    let all : take c.loop-i.i rows ≡ rows = take_all c.loop-i.i rows (omega (arith, length-map c.args.words.now request_of, c.loop-i-test.false)) in
    c.loop-i.invariant ∙ ap (λ (l : List EntityRequest). begins l c.args.out.now) all
