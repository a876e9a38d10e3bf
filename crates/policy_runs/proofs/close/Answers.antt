-- `policy_runs::close` meets its contract: what adding the one result answers is what the end of the contribution answers.
use Prim.Native.Nat.{ℕ, ◌^◌, ◌<◌}
use mathlib.Core.List.{List, [], ◌∷◌}
use mathlib.Core.Bool.{false}
use Rattle.rules.specs.Listing.{read}
use Rattle.rules.specs.Steps.{Result}
use Rattle.rows.specs.States.{Lent}
use Rattle.rows.specs.declared.Kind.TheVariants.{Contribution}
use Rattle.result_stack.specs.Stacks.{Held}
use Rattle.step_runs.specs.StepRunLaws.{only_result, only_there, only_trie}
use Rattle.policy_runs.specs.PolicyRunLaws.{closed_none, closed_many, contributed_lent, closed_added, closed_refused}
use Rattle.policy_runs.proofs.close.Goals as goal
use Rattle.policy_runs.proofs.close.Goals.{After-write_contribution, In-Some}

-- what has begun holds results
held :
    (c : In-Some) → Held c.requires.fact.0.code c.args.tries.now c.in-Some.begun.stack c.requires.fact.0.results
held c = rw c.in-Some.is at c.requires.fact.0.held

small : (c : In-Some) → c.in-Some.begun.request < 2 ^ 48
small c = rw c.in-Some.is at c.requires.fact.0.small

pub returns-in_default : goal.returns-in_default
returns-in_default c = rw c.in_default.is (λ code results held. closed_none c.args.rows.now results c.requires.fact.1)

pub returns-then-begun-ne1 : goal.returns-then-begun-ne1
returns-then-begun-ne1 c =
    let a = c.args in
    rw (c.in-Some.is, c.at.ensures) (λ code results held items. closed_many a.rows.now c.in-Some.begun results items a.number held c.if-begun-ne1.true)

pub write_contribution-requires : goal.write_contribution-requires
write_contribution-requires c =
    (only_trie (held (goal.at.write_contribution-requires c).In-Some) c.if-begun-ne1.false, (small (goal.at.write_contribution-requires c).In-Some, c.requires.in_bounds.0))

-- what was written is the contribution of the one result
lent-given :
    (c : After-write_contribution) {code : List ℕ} {results : List Result}
    → (c.in-Some.begun.request < 2 ^ 48)
    → (held : Held code c.args.tries.now c.in-Some.begun.stack results)
    → Lent Contribution c.write_contribution.new.out (read 0 c.in-Some.begun.request false ∷ (only_result held c.if-begun-ne1.false).0.trie)
lent-given c small-here held =
    let (top, only) = only_result held c.if-begun-ne1.false in
    contributed_lent held small-here top only c.args.contribution.now c.requires.in_bounds.0
    (c.write_contribution.ensures top.trie [] (only_there held c.if-begun-ne1.false))

pub unite_lawful-requires : goal.unite_lawful-requires
unite_lawful-requires c =
    let small-here = small (goal.at.unite_lawful-requires c).In-Some in
    record {
      manifest_value = (c.requires.fact.1.lawful-state, (Contribution, (lent-given (goal.at.unite_lawful-requires c).After-write_contribution small-here (held (goal.at.unite_lawful-requires c).In-Some)).lawful-state));
      in_bounds = (c.requires.fact.1.long, c.requires.in_bounds.1);
    }

pub returns-in-Ok : goal.returns-in-Ok
returns-in-Ok c =
    let small-here = small (goal.at.returns-in-Ok c).In-Some in
    rw c.in-Some.is
    (λ code results held.
    let (top, only) = only_result held c.if-begun-ne1.false in
    closed_added held small-here top only c.args.rows.now _ c.requires.fact.1 (lent-given (goal.at.returns-in-Ok c).After-write_contribution small-here held) c.unite_lawful.ensures.0 c.unite_lawful.ensures.1 c.in-Ok.is)

pub returns-in-Err : goal.returns-in-Err
returns-in-Err c =
    let small-here = small (goal.at.returns-in-Err c).In-Some in
    rw c.in-Some.is
    (λ code results held items.
    let (top, only) = only_result held c.if-begun-ne1.false in
    closed_refused held small-here top only c.args.rows.now _ c.requires.fact.1 (lent-given (goal.at.returns-in-Err c).After-write_contribution small-here held) c.unite_lawful.ensures.0 c.unite_lawful.ensures.1 c.in-Err.is items c.args.number)
