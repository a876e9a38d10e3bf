-- `schema::known::room_after` meets its contract: each arm of the match is a case of `room_after`.
use native.Mathlib.Omega.{arith}
use mathlib.Core.Path.{◌≡◌}
use borrow.Author.Tests.{ne_eqb, eqb-false}
use Rattle.rules.specs.Facts.{by_test}
use lib.Dec.{eqb}
use Rattle.schema.proofs.known.room_after.Goals as goal

pub returns-in_default : goal.returns-in_default
returns-in_default c =
    rw (ne_eqb c.args.tag 7 (omega arith), ne_eqb c.args.tag 8 (omega arith), ne_eqb c.args.tag 11 (omega arith))

pub returns-in_default-2 : goal.returns-in_default-2
returns-in_default-2 c =
    rw (ne_eqb c.args.tag 7 (omega arith), ne_eqb c.args.tag 8 (omega arith), ne_eqb c.args.tag 11 (omega arith))

pub returns-in-7 : goal.returns-in-7
returns-in-7 c = rw c.in-7.is

pub returns-in-7-2 : goal.returns-in-7-2
returns-in-7-2 c =
    by_test (eqb c.args.tag 7)
    (λ e. rw e)
    (λ e. let eight : c.args.tag ≡ 8 = omega (arith, eqb-false c.args.tag 7 e) in rw eight)
