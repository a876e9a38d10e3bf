-- Laws of step texts that are analysed into buffers of their own (Calls). Demand3InCalls states what follows. No contract cites this file.
use Rattle.std.specs.Prelude.{ℕ, ◌≤◌, ◌≡◌, ◌↔◌, length}
use Rattle.std.proofs.Math.Path.{refl, sym, ap}
use Rattle.std.proofs.Common.{◌∙◌}
use Rattle.std.proofs.Math.Logic.{⊎_elim}
use mathlib.Core.List.Memᴰ.{cases_cons as here-or-later}
use mathlib.Core.List.Memᴰ.{head as here}
use mathlib.Core.List.Memᴰ.{not-nil as none_in_empty}
use mathlib.Core.List.Memᴰ.{tail as later}
use mathlib.Core.List.{List, [], ◌∷◌, map, Memᴰ as Member}
use Rattle.rules.specs.Numbers.{accepted}
use Rattle.rules.specs.Facts.{accepted_same}
use Rattle.rules.specs.Tries.{Row}
use Rattle.rules.specs.Steps.{analyse}
use Rattle.words.specs.Runs.{Outcome}
use Rattle.words.specs.Replies.{Done}
use Rattle.rows.specs.States.{rows_in}
use Rattle.schema.specs.Items.{items_in}
use Rattle.manifest.specs.UniteLaws.{same_reply}
use Rattle.analysis.specs.Outcomes.{analyse_in}
use Rattle.calls.specs.Calls.{AllDone, StepJob, StepsAsked, AllRoomy, analysed_by, contributions_in, analyses_in, AllLent}
use Rattle.calls.proofs.HandedLaws.{done_tested, tested_stores, steps_analysed}

-- an analysis that is Done is Done in any buffer that is long enough
analysed_again :
    (schema : List ℕ) (request : ℕ) (text out out' : List ℕ)
    → 1026 ≤ length out'
    → (analyse_in schema request text out).reply ≡ Done
    → (analyse_in schema request text out').reply ≡ Done
analysed_again schema request text out out' room' done =
    let (long, room, lawful, small) = done_tested schema request text out done in
    ap (λ (o : Outcome). o.reply) (tested_stores schema request text out' (long, room', lawful, small))
    ∙ same_reply out' out (analyse (items_in schema) request text)
    ∙ sym (ap (λ (o : Outcome). o.reply) (tested_stores schema request text out (long, room, lawful, small)))
    ∙ done

module _ (schema : List ℕ) where
  -- jobs that are all Done, one by one
  done_each : (jobs : List StepJob) → AllDone (analyses_in schema jobs) → (job : StepJob) → Member job jobs → (analysed_by schema job).reply ≡ Done
  unfolding AllDone
  done_each [] done job member = absurd (none_in_empty member)
  done_each (first ∷ jobs) (one, done) job member =
      ⊎_elim (λ (q : job ≡ first). rw q one) (λ m. done_each jobs done job m) (here-or-later member)

  each_done : (jobs : List StepJob) → ((job : StepJob) → Member job jobs → (analysed_by schema job).reply ≡ Done) → AllDone (analyses_in schema jobs)
  unfolding AllDone
  each_done [] each = tt
  each_done (job ∷ jobs) each = (each job (here refl), each_done jobs (λ other m. each other (later m)))

  roomy_each : (jobs : List StepJob) → AllRoomy jobs → (job : StepJob) → Member job jobs → 1026 ≤ length job.out
  unfolding AllRoomy
  roomy_each [] roomy job member = absurd (none_in_empty member)
  roomy_each (first ∷ jobs) (one, roomy) job member =
      ⊎_elim (λ (q : job ≡ first). rw q one) (λ m. roomy_each jobs roomy job m) (here-or-later member)

  -- where all are Done the contributions are lent, as adding wants them
  pub jobs_lent : (jobs : List StepJob) → AllDone (analyses_in schema jobs) → AllLent (contributions_in schema jobs)
  unfolding AllDone AllLent
  jobs_lent [] done = tt
  jobs_lent (job ∷ jobs) (one, done) =
      let (rows, given, lent) = steps_analysed schema job.request job.steps job.out one in
      (record { long = lent.long; lawful-state = lent.lawful-state; has_rows = refl }, jobs_lent jobs done)

  -- and they are what `rules` gives for each job
  job_members :
      (jobs : List StepJob)
      → AllDone (analyses_in schema jobs)
      → (c : List Row)
      → Member c (map rows_in (contributions_in schema jobs)) ↔ ((job : StepJob) × Member job jobs × (analyse (items_in schema) job.request job.steps ≡ accepted c))
  unfolding AllDone
  job_members [] done c = (λ member. absurd (none_in_empty member), λ (job, member, _). absurd (none_in_empty member))
  job_members (job ∷ jobs) (one, done) c =
      let (rows, given, lent) = steps_analysed schema job.request job.steps job.out one in
      let more = job_members jobs done c in (
        λ member.
            ⊎_elim
            (λ (e : c ≡ rows_in (analysed_by schema job).buffer). (job, here refl, given ∙ ap accepted (sym (e ∙ lent.has_rows))))
            (λ m. let (other, in-jobs, e) = more.0 m in (other, later in-jobs, e))
            (here-or-later member),
        λ (other, member, e).
            ⊎_elim
            (λ (q : other ≡ job).
            let again : analyse (items_in schema) job.request job.steps ≡ accepted c = rw q at e in
            here (accepted_same c rows (sym again ∙ given) ∙ sym lent.has_rows))
            (λ m. later (more.1 (other, m, e)))
            (here-or-later member),
      )

  module _
      (jobs others : List StepJob)
      (same : (request : ℕ) (steps : List ℕ) → StepsAsked request steps jobs ↔ StepsAsked request steps others)
      (roomy : AllRoomy others)
      (done : AllDone (analyses_in schema jobs)) where
    -- the same jobs in other buffers that are long enough are all Done
    pub same_done : AllDone (analyses_in schema others)
    same_done =
        each_done others
        (λ job member.
        let (out, in-jobs) = (same job.request job.steps).1 (job.out, member) in
        analysed_again schema job.request job.steps out job.out (roomy_each others roomy job member)
        (done_each jobs done (record { request = job.request; steps = job.steps; out = out }) in-jobs))

    -- and leave the same contributions
    pub same_contributions :
        (c : List Row)
        → Member c (map rows_in (contributions_in schema jobs)) ↔ Member c (map rows_in (contributions_in schema others))
    same_contributions c = (
      λ member.
          let (job, of-jobs, e) = (job_members jobs done c).0 member in
          let (out, in-others) = (same job.request job.steps).0 (job.out, of-jobs) in
          (job_members others same_done c).1 (record { request = job.request; steps = job.steps; out = out }, in-others, e),
      λ member.
          let (job, of_others, e) = (job_members others same_done c).0 member in
          let (out, in-jobs) = (same job.request job.steps).1 (job.out, of_others) in
          (job_members jobs done c).1 (record { request = job.request; steps = job.steps; out = out }, in-jobs, e),
    )
