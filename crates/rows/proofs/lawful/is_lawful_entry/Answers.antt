-- `rows::lawful::is_lawful_entry` meets its contract: rows in order are judged by how many nodes and entries were counted.
use borrow.Author.Tests.{le-leb, lt-leb}
use mathlib.Core.Path.{sym, ◌∙◌}
use Rattle.rows.specs.States.{lawful_entry}
use Rattle.rows.proofs.LawfulLaws.{counted_none_by, counted_some_by}
use Rattle.rows.proofs.lawful.is_lawful_entry.Goals as goal

pub returns-in_default : goal.returns-in_default
unfolding lawful_entry
returns-in_default c = rw (counted_none_by c.args.words.now (sym c.in_default.is ∙ c.count_rows.ensures))

pub returns-then-found-gt-NODES : goal.returns-then-found-gt-NODES
unfolding lawful_entry
returns-then-found-gt-NODES c =
    let (good, all_entries, all_nodes) = counted_some_by c.args.words.now (sym c.in-Some.is ∙ c.count_rows.ensures) in
    rw (good, ← all_nodes, lt-leb _ _ c.if-found-gt-NODES.true)

pub returns : goal.returns
unfolding lawful_entry
returns c =
    let (good, all_entries, all_nodes) = counted_some_by c.args.words.now (sym c.in-Some.is ∙ c.count_rows.ensures) in
    rw (good, ← all_entries, ← all_nodes, le-leb _ _ c.if-found-gt-NODES.false)
