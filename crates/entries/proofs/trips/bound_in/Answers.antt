-- `entries::trips::bound_in` meets its contract: without an entry there are no trips, and with one they are those of its nodes.
use native.Mathlib.Nat.{add-sub_cancel_left}
use mathlib.Core.Path.{◌≡◌}
use mathlib.Core.Option.{some}
use Rattle.rules.specs.LoadCalls.{Entry, entry_for}
use Rattle.rows.specs.States.{rows_of}
use Rattle.entries.specs.Entries.{EntryAt}
use Rattle.entries.specs.EntryLaws.{found_missing, found_found}
use Rattle.entries.specs.BoundLaws.{found_nodes, bound_none, bound_some}
use Rattle.entries.proofs.trips.bound_in.Goals as goal
use Rattle.entries.proofs.trips.bound_in.Goals.{In-Some}

pub returns-in_default : goal.returns-in_default
returns-in_default c =
    let a = c.args in
    let rows = rows_of a.rows.now in
    rw (bound_none rows a.request (found_missing a.rows.now a.request (entry_for a.request 0 rows) c.find_entry.result c.find_entry.ensures c.in_default.is))

-- the entry, where it stands
entry_at :
    (c : In-Some) →
    let a = c.args in
    (entry : Entry)
    × (entry_for a.request 0 (rows_of a.rows.now) ≡ some entry)
    × EntryAt a.rows.now a.request entry c.in-Some.entry
entry_at c =
    let a = c.args in
    found_found a.rows.now a.request (entry_for a.request 0 (rows_of a.rows.now)) c.find_entry.result c.find_entry.ensures c.in-Some.is

pub returns : goal.returns
returns c =
    let a = c.args in
    let (entry, is, here) = entry_at (goal.at.returns c).In-Some in
    let nodes = rw here.rows at (found_nodes a.request (rows_of a.rows.now) entry c.requires is) in
    rw (bound_some (rows_of a.rows.now) a.request entry is, here.rows)
    ((rw add-sub_cancel_left at c.bound_of.ensures) a.request nodes)
