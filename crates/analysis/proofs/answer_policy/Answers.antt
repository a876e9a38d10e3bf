-- `analysis::answer_policy` meets its contract: what the run over a copy of the manifest comes to takes its place.
use Prim.Native.Nat.{ℕ}
use native.Mathlib.Omega.{arith}
use mathlib.Core.Path.{◌≡◌, refl}
use lib.ListN.{length-replicate, replicate}
use Rattle.std.proofs.lemmas.Result.{err_from_is_err_and}
use Rattle.rows.specs.States.{rows_in}
use Rattle.rows.specs.LentLaws.{lent_few}
use Rattle.rows.specs.declared.Kind.TheVariants.{Manifest}
use Rattle.schema.specs.Items.{items_of}
use Rattle.policy_runs.specs.PolicyRuns.{LentManifest, PolicyAdded}
use Rattle.analysis.specs.PolicyAnswerLaws.{copy_lent, added_stop, added_done}
use Rattle.analysis.proofs.answer_policy.Goals as goal
use Rattle.analysis.proofs.answer_policy.Goals.{After-copy_rows, In_ok-run_policy}

pub copy_rows-requires : goal.copy_rows-requires
copy_rows-requires c = lent_few Manifest _ _ c.requires.lent

-- the copy is a lent manifest with the same rows
copied :
    (c : After-copy_rows) → LentManifest c.copy_rows.new.to × (rows_in c.copy_rows.new.to ≡ rows_in c.args.manifest.now)
copied c = copy_lent c.args.manifest.now (replicate 4161 0) c.requires.lent (omega (arith, length-replicate {A = ℕ} 4161 0)) c.copy_rows.ensures

pub run_policy-requires : goal.run_policy-requires
run_policy-requires c = record { lent = (copied (goal.at.run_policy-requires c).After-copy_rows).0; code_len_bound = c.requires.code_len_bound }

-- all was added to the copy
added :
    (c : In_ok-run_policy) → PolicyAdded (items_of c.args.types.now.words.now) c.args.text.now c.copy_rows.new.to c.run_policy.new.rows
added c = rw c.in_ok-run_policy.was at c.run_policy.ensures

pub copy_rows-requires-2 : goal.copy_rows-requires-2
copy_rows-requires-2 c =
    let few = lent_few Manifest _ _ (added (goal.at.copy_rows-requires-2 c).In_ok-run_policy).lent in
    (few.0, omega (arith, few.1, c.requires.lent.long))

pub returns-in_err-run_policy : goal.returns-in_err-run_policy
returns-in_err-run_policy c =
    let a = c.args in
    let handed = err_from_is_err_and c.from_residual.result c.from_residual.ensures.1 in
    rw (handed.1, handed.2)
    (added_stop (items_of a.types.now.words.now) a.text.now a.manifest.now c.copy_rows.new.to (copied (goal.at.returns-in_err-run_policy c).After-copy_rows).1 _ _ c.run_policy.new.rows c.in_err-run_policy.field-0.0 (rw c.in_err-run_policy.was at c.run_policy.ensures))

pub returns : goal.returns
returns c =
    let a = c.args in
    (added_done (items_of a.types.now.words.now) a.text.now a.manifest.now c.copy_rows.new.to (copied (goal.at.returns c).After-copy_rows).1 (added (goal.at.returns c).In_ok-run_policy) c.copy_rows-2.ensures, tt)
