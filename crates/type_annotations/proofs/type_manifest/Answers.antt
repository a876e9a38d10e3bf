-- `type_annotations::type_manifest` meets its contract: the rows that stay are copied with their count in front.
use Prim.Native.Nat.{ℕ}
use native.Mathlib.Omega.{arith}
use mathlib.Core.List.{List}
use mathlib.Core.Path.{◌≡◌, refl, sym, ap, ◌∙◌}
use lib.ListN.{length-set}
use lib.Seq.{sets, length-take-le}
use Rattle.rules.specs.Numbers.{refused}
use Rattle.rules.specs.Typing.{typed}
use Rattle.rows.specs.States.{rows_of}
use Rattle.schema.specs.Items.{items_of}
use Rattle.words.specs.RunLaws.{counted}
use Rattle.type_annotations.specs.Outcomes.{TypedRows}
use Rattle.type_annotations.specs.TypedLaws.{typed_copied}
use Rattle.std.proofs.lemmas.Result.{err_from_is_err_and}
use Rattle.type_annotations.proofs.type_manifest.Goals as goal
use Rattle.type_annotations.proofs.type_manifest.Goals.{In_ok-count}

-- the words that were stored are those of the rows that stay
stayed :
    (c : In_ok-count) →
    let a = c.args in
    TypedRows (typed (items_of a.words.now) (rows_of a.rows.now)) c.type_rows.new.out c.in_ok-count.count
stayed c = rw (c.in_ok-count.was, c.new-tables.ensures) at c.type_rows.ensures

pub slice_bounds-entities-end : goal.slice_bounds-entities-end
slice_bounds-entities-end c = omega (arith, c.of-places.ensures.entities_bound.0, c.of-places.auto.entities)

pub slice_bounds-new-end : goal.slice_bounds-new-end
slice_bounds-new-end c = sym (length-take-le _ _ (omega (arith, c.of-places.ensures.entities_bound.0, c.of-places.auto.entities)))

pub type_rows-requires : goal.type_rows-requires
type_rows-requires c = record {
  in_bounds = omega (arith, c.requires.words_value.1.1);
  rows_value = (c.requires.rows_value.0, c.requires.rows_value.1.0);
}

pub copy_rows-requires : goal.copy_rows-requires
copy_rows-requires c =
    let few = (stayed (goal.at.copy_rows-requires c).In_ok-count).inside in
    rw (counted c.type_rows.new.out c.in_ok-count.count few)
    (simp length-set few, omega (arith, few, c.type_rows.auto.out, c.requires.rows_value.1.1))

pub returns-in_err-count : goal.returns-in_err-count
returns-in_err-count c =
    let why = c.in_err-count.field-0.0 in
    let handed = err_from_is_err_and c.from_residual.result c.from_residual.ensures.1 in
    let answered : typed (items_of c.args.words.now) (rows_of c.args.rows.now) ≡ refused why.number why.place =
    rw (c.in_err-count.was, c.new-tables.ensures) at c.type_rows.ensures in
    rw (handed.1, handed.2, answered) (refl, refl)

pub returns : goal.returns
returns c =
    let to = stayed (goal.at.returns c).In_ok-count in
    rw to.answered (
      refl,
      c.copy_rows.ensures
          ∙ ap (λ (l : List ℕ). sets c.args.out.now 0 l) (typed_copied c.type_rows.new.out c.in_ok-count.count to),
    )
