-- `ancestors::row::take_row` meets its contract: the mark, and then what the children of a loaded entity meet.
use native.Mathlib.Omega.{arith}
use Prim.Native.Nat.{ℕ, ◌+◌, ◌≤◌}
use mathlib.Core.Path.{subst}
use mathlib.Core.List.{List, [], ◌∷◌}
use lib.ListN.{length}
use Rattle.std.specs.Prelude.{Result, Some}
use Rattle.rules.specs.Loading.{EntityRequest, loaded_as, take_row}
use Rattle.rules.specs.Trips.{row_finds}
use Rattle.rows.specs.States.{rows_of}
use Rattle.values.specs.ValueWords.{row_asked}
use Rattle.std.proofs.lemmas.Result.{err_from_is_err_and}
use Rattle.ancestors.specs.SliceWords.{slice_in, FoundAs}
use Rattle.ancestors.specs.Takings.{wanted_in, Takes}
use Rattle.ancestors.specs.TakingLaws.{was_put, not_put}
use Rattle.ancestors.specs.RowLaws.{row_room, row_full, row_missing, row_found}
use Rattle.ancestors.specs.declared.events.Taken.{Taken}
use Rattle.ancestors.proofs.row.take_row.Goals as goal
use Rattle.ancestors.proofs.row.take_row.Goals.{After-from-asked, In-Some}

-- what it takes is what the row that the word says takes
answered :
    (c : After-from-asked) {out : List ℕ} {r : Result Taken ℕ} →
    let taking : EntityRequest → Type 0 = λ row. Takes (λ place. take_row (rows_of c.args.nodes.now) (slice_in c.args.slice.now) place row (wanted_in c.args.set c.args.out.now c.args.to)) out r in
    taking (record { id = c.from-asked.result.id; node = c.from-asked.result.node }) → taking (row_asked c.args.row)
answered c {out} {r} =
    subst
    (λ (row : EntityRequest). Takes (λ place. take_row (rows_of c.args.nodes.now) (slice_in c.args.slice.now) place row (wanted_in c.args.set c.args.out.now c.args.to)) out r)
    (λ i. record { id = c.from-asked.ensures.0 i; node = c.from-asked.ensures.1 i })

pub returns-in_err-more : goal.returns-in_err-more
returns-in_err-more c =
    let (none, number) = not_put c.ok_or.ensures.value c.in_err-more.was in
    let (_, is, same) = err_from_is_err_and c.from_residual.result c.from_residual.ensures.1 in
    rw (is, same, number)
    (answered (goal.at.returns-in_err-more c).After-from-asked
    (row_full (rows_of c.args.nodes.now) (slice_in c.args.slice.now) (record { id = c.from-asked.result.id; node = c.from-asked.result.node }) c.args.set c.args.out.now c.args.to
    c.put_marked.ensures none))

pub returns-in-None : goal.returns-in-None
returns-in-None c =
    answered (goal.at.returns-in-None c).After-from-asked
    (row_missing (rows_of c.args.nodes.now) (slice_in c.args.slice.now) (record { id = c.from-asked.result.id; node = c.from-asked.result.node }) c.args.set c.args.out.now c.args.to
    c.put_marked.ensures (was_put c.ok_or.ensures.ok_part c.in_ok-more.was) (rw c.in-None.is at c.find_loaded.ensures) (omega (arith, c.requires.row_in_bounds)))

-- the rows of its entity
found : (c : In-Some) → FoundAs (loaded_as c.from-asked.result.id (slice_in c.args.slice.now)) (Some c.in-Some.values)
found c = rw c.in-Some.is at c.find_loaded.ensures

-- there is room for what the row finds
room : (c : In-Some) →
    c.args.to + length (row_finds (rows_of c.args.nodes.now) (slice_in c.args.slice.now) ((record { id = c.from-asked.result.id; node = c.from-asked.result.node }) ∷ [])) ≤ length c.args.out.now
room c = rw (c.from-asked.ensures.0, c.from-asked.ensures.1) c.requires.row_in_bounds

pub take_remaining-requires : goal.take_remaining-requires
take_remaining-requires c = (
  rw (was_put c.ok_or.ensures.ok_part c.in_ok-more.was) at c.put_marked.ensures.is_set,
  c.requires.set.1,
  rw (row_room (rows_of c.args.nodes.now) (slice_in c.args.slice.now) (record { id = c.from-asked.result.id; node = c.from-asked.result.node }) _ (found (goal.at.take_remaining-requires c).In-Some)) at (room (goal.at.take_remaining-requires c).In-Some),
)

pub returns-in-Some : goal.returns-in-Some
returns-in-Some c =
    answered (goal.at.returns-in-Some c).After-from-asked
    (row_found (rows_of c.args.nodes.now) (slice_in c.args.slice.now) (record { id = c.from-asked.result.id; node = c.from-asked.result.node }) c.args.set c.args.out.now c.args.to
    c.put_marked.ensures (was_put c.ok_or.ensures.ok_part c.in_ok-more.was) _ (found (goal.at.returns-in-Some c).In-Some) c.take_remaining.ensures)
