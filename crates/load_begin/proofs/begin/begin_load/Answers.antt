-- `load_begin::begin::begin_load` meets its contract: without an entry the load has ended, and with one it begins with it.
use native.Mathlib.Omega.{arith}
use mathlib.Core.Path.{refl}
use Rattle.rules.specs.LoadCalls.{entry_for}
use Rattle.rows.specs.States.{rows_of}
use Rattle.entries.specs.EntryLaws.{entry_few, entry_count, found_missing, found_found}
use Rattle.load_begin.specs.BeginLaws.{own_words}
use Rattle.load_begin.proofs.begin.begin_load.Goals as goal

pub begin_entry-requires : goal.begin_entry-requires
begin_entry-requires c =
    let a = c.args in
    let (entry, is, here) =
    found_found a.rows.now a.request.triple (entry_for a.request.triple 0 (rows_of a.rows.now)) c.find_entry.result c.find_entry.ensures c.in-Some.is in
    let few = entry_few a.request.triple 0 (rows_of a.rows.now) entry is in
    record { count_in_bounds = (here.within, (omega (arith, entry_count a.rows.now a.request.triple entry _ here, few, c.requires.rows_value.1.0), c.requires.rows_value.1.1)); principal_bound = c.requires.principal_bound; rows_value = own_words a.rows.now a.request.triple _ _ c.requires.rows_value.0 here.within here.own_depth here.own_step }

pub returns-in-None : goal.returns-in-None
returns-in-None c =
    let a = c.args in
    let none_there = found_missing a.rows.now a.request.triple (entry_for a.request.triple 0 (rows_of a.rows.now)) c.find_entry.result c.find_entry.ensures c.in-None.is in
    rw none_there (refl, c.store_begun.ensures)

pub returns-in-Some : goal.returns-in-Some
returns-in-Some c =
    let a = c.args in
    let (entry, is, here) =
    found_found a.rows.now a.request.triple (entry_for a.request.triple 0 (rows_of a.rows.now)) c.find_entry.result c.find_entry.ensures c.in-Some.is in
    rw (is, here.number, here.rows) c.begin_entry.ensures
