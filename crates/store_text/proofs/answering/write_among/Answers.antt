-- `store_text::answering::write_among` meets its contract: the ids that were passed are judged, and those left are by the ancestors left.
use Prim.Native.Nat.{◌<◌}
use native.Mathlib.Omega.{arith}
use mathlib.Core.List.{map}
use mathlib.Core.Path.{◌≡◌, ◌∙◌}
use lib.ListN.{length, get_or, length-map, length-set, get_or-map}
use Rattle.store_text.specs.Answering.{id_in}
use Rattle.store_text.specs.AnswerLaws.{merging_asked, merging_us, merging_below, merging_same, merging_above}
use Rattle.store_text.proofs.answering.write_among.Goals as goal
use Rattle.store_text.proofs.answering.write_among.Goals.{then-there-id-2, else-there-id-2, Else-j-ancestors}

-- an ancestor is left
left : (c : Else-j-ancestors) → c.loop-i.j < length c.args.ancestors.now
left c =
    omega (arith, c.if-j-ancestors.false, c.loop-i.invariant.3)

others : (c : Else-j-ancestors) → c.loop-i.j < length (map id_in c.args.ancestors.now)
others c = omega (arith, left c, length-map c.args.ancestors.now id_in)

-- its id
there : (c : Else-j-ancestors) →
    get_or (map id_in c.args.ancestors.now) c.loop-i.j 0 ≡ id_in (get_or c.args.ancestors.now c.loop-i.j 0)
there c = get_or-map id_in c.args.ancestors.now c.loop-i.j 0

pub returns-then-j-ancestors : goal.returns-then-j-ancestors
returns-then-j-ancestors c = (
  c.loop-i.invariant.0,
  λ ups asks. merging_us (c.loop-i.invariant.5 ups asks) (omega (arith, c.if-j-ancestors.true, length-map c.args.ancestors.now id_in)),
)

pub loop-i-preserved-then-there-id : goal.loop-i-preserved-then-there-id
loop-i-preserved-then-there-id c = (
  c.loop-i.invariant.0,
  c.loop-i.invariant.1,
  c.loop-i.invariant.2,
  omega (arith, left (goal.at.loop-i-preserved-then-there-id c).Else-j-ancestors),
  c.loop-i.invariant.4,
  λ ups asks. merging_below (c.loop-i.invariant.5 ups asks) c.loop-i-test.true (others (goal.at.loop-i-preserved-then-there-id c).Else-j-ancestors) (rw (there (goal.at.loop-i-preserved-then-there-id c).Else-j-ancestors) c.if-there-id.true),
)

pub loop-i-preserved : goal.loop-i-preserved
loop-i-preserved c =
    let at = goal.at.loop-i-preserved c in
    elim c.if-there-id-2.branch [
      | then-there-id-2 w ↦
          rw (w.out-is, w.next-is) (
            omega (arith, c.loop-i.invariant.0),
            omega (arith, c.loop-i.invariant.1),
            omega (arith, c.loop-i-test.true),
            c.loop-i.invariant.3,
            rw length-set c.loop-i.invariant.4,
            λ ups asks. merging_same (c.loop-i.invariant.5 ups asks) c.loop-i-test.true (others at.Else-j-ancestors) (there at.Else-j-ancestors ∙ w.if-there-id-2.true),
          )
      | else-there-id-2 w ↦
          rw (w.out-is, w.next-is) (
            c.loop-i.invariant.0,
            omega (arith, c.loop-i.invariant.1),
            omega (arith, c.loop-i-test.true),
            c.loop-i.invariant.3,
            c.loop-i.invariant.4,
            λ ups asks.
                merging_above (c.loop-i.invariant.5 ups asks) c.loop-i-test.true (others at.Else-j-ancestors) (rw (there at.Else-j-ancestors) (omega (arith, c.if-there-id.false, w.if-there-id-2.false))),
          )
    ]

pub returns : goal.returns
returns c =
    (c.loop-i.invariant.0, λ ups asks. merging_asked (c.loop-i.invariant.5 ups asks) c.loop-i-test.false)
