-- `load_ends::sets::take_sets` meets its contract: the sets are judged, summed and kept.
use mathlib.Core.Path.{◌≡◌, refl, sym, ap, ◌∙◌}
use lib.ListN.{length}
use Rattle.rules.specs.Loading.{done, refused_at, summed}
use Rattle.rules.specs.LoadCalls.{ended}
use Rattle.answers.specs.Answers.{AllRead, lent_from, lent_items, sum_in}
use Rattle.answers.specs.LentLaws.{fine_all}
use Rattle.answers.specs.declared.Lending.TheVariants.{Sets}
use Rattle.load_state.specs.LoadReplies.{Done}
use Rattle.load_ends.specs.Ends.{sets_stored}
use Rattle.load_ends.specs.SetLaws.{sets_wrong, sets_over, sets_kept}
use Rattle.load_ends.proofs.sets.take_sets.Goals as goal
use Rattle.load_ends.proofs.sets.take_sets.Goals.{In-Err-sum, In_default, In_default-sum}

-- all are of their form
read : (c : In_default) → let a = c.args in AllRead (lent_from Sets 0 a.count a.words.now)
read c = let a = c.args in fine_all (lent_from Sets 0 a.count a.words.now) (sym c.check.ensures ∙ c.in_default.is)

-- and come to a sum
sums : (c : In_default-sum) → let a = c.args in summed length 0 a.sum (lent_items Sets a.count a.words.now) ≡ done c.in_default-sum.field-0
sums c = c.sum.ensures ∙ ap sum_in c.in_default-sum.is

-- or pass the limit
over : (c : In-Err-sum) → let a = c.args in summed length 0 a.sum (lent_items Sets a.count a.words.now) ≡ refused_at 15 c.in-Err-sum.place
over c = c.sum.ensures ∙ ap sum_in c.in-Err-sum.is

pub returns-in-Err : goal.returns-in-Err
returns-in-Err c load asked rows batches sum =
    let a = c.args in
    rw (sets_wrong a.state.now a.words.now a.count load c.requires.state_value (sym c.check.ensures ∙ c.in-Err.is)) (refl, refl)

pub sum-requires : goal.sum-requires
sum-requires c = (read (goal.at.sum-requires c).In_default, c.requires.in_bounds.1.1)

pub returns-in-Err-sum : goal.returns-in-Err-sum
returns-in-Err-sum c load asked rows batches sum =
    let a = c.args in
    rw (sets_over a.state.now a.words.now a.count load c.requires.state_value {place = c.in-Err-sum.place} (read (goal.at.returns-in-Err-sum c).In_default) (rw sum (over (goal.at.returns-in-Err-sum c).In-Err-sum))) (refl, refl)

pub keep_sets-kept-requires : goal.keep_sets-kept-requires
keep_sets-kept-requires c =
    let a = c.args in
    record { in_bounds = (c.requires.in_bounds.0, (c.requires.in_bounds.1.0, read (goal.at.keep_sets-kept-requires c).In_default)); by_index = (a.sum, c.in_default-sum.field-0, c.requires.in_bounds.1.1, sums (goal.at.keep_sets-kept-requires c).In_default-sum) }

pub returns : goal.returns
returns c load asked rows batches sum =
    let a = c.args in
    let (kept, stored) = c.keep_sets-kept.ensures in
    rw (sets_kept a.state.now a.words.now a.count load c.requires.state_value {total = c.in_default-sum.field-0} (read (goal.at.returns c).In_default) (rw sum (sums (goal.at.returns c).In_default-sum)), asked, rows, batches) (
      ap (λ k. Done k a.batches a.asked) kept,
      stored ∙ ap (sets_stored a.state.now a.words.now ended) kept,
    )
