-- `path_tries::union_by` meets its contract: the union is refused where it has too many nodes, and otherwise copied.
use Prim.Native.Nat.{◌≤◌, ◌<◌}
use native.Mathlib.Omega.{arith}
use native.Mathlib.Nat.{add-sub_cancel}
use mathlib.Core.List.{◌∷◌, map}
use mathlib.Core.Path.{◌≡◌, sym, ◌∙◌}
use lib.Seq.{length-sets}
use lib.ListN.{length, length-map}
use Rattle.rules.specs.Tries.{union}
use Rattle.rows.specs.States.{rows_of, rows_in, holding}
use Rattle.rows.specs.Words.{word_of}
use Rattle.words.specs.RunLaws.{held_count, held_copied}
use Rattle.path_tries.specs.NodeLaws.{words_there, roomy_rows, merge_done, merge_refused, merged}
use Rattle.path_tries.proofs.union_by.Goals as goal
use Rattle.path_tries.proofs.union_by.Goals.{In-Ok}

-- what was united fits, and is held
united :
    (c : In-Ok)
    → let a = c.args in
    let rows = union (rows_in a.trie.now) (rows_of a.run.now) in
    (length rows ≤ 1024) × ((length rows < length a.united.now) × (c.union_rows.new.out ≡ holding a.united.now rows))
united c =
    let ensured = simp add-sub_cancel at c.union_rows.ensures in
    let (few, held) = merge_done _ _ c.requires.state.0 c.requires.state.1 c.args.united.now (sym ensured.0 ∙ c.in-Ok.is) in
    (few, (roomy_rows _ _ c.requires.state.0 c.requires.state.1 c.args.united.now few c.requires.roomy.0, ensured.1 ∙ held))

pub union_rows-requires : goal.union_rows-requires
union_rows-requires c =
    rw add-sub_cancel ((words_there _ _ c.requires.state.0 c.requires.state.1).0, (words_there _ _ c.requires.state.0 c.requires.state.1).1, c.requires.roomy.0)

pub returns-in_default : goal.returns-in_default
returns-in_default c =
    merge_refused _ _ c.requires.state.0 c.requires.state.1 c.args.united.now c.in_default.field-0.number c.in_default.field-0.place (sym (simp add-sub_cancel at c.union_rows.ensures).0 ∙ c.in_default.is)

pub copy_rows-requires : goal.copy_rows-requires
copy_rows-requires c =
    let a = c.args in
    let rows = union (rows_in a.trie.now) (rows_of a.run.now) in
    let (few, (room, held)) = united (goal.at.copy_rows-requires c).In-Ok in
    let same : length (holding a.united.now rows) ≡ length a.united.now = length-sets a.united.now 0 (length rows ∷ map word_of rows) in
    rw (held, held_count a.united.now (map word_of rows) (length-map rows word_of) room) (omega (arith, same), omega (arith, few, c.requires.state.0.state_length))

pub returns : goal.returns
returns c =
    let a = c.args in
    let rows = union (rows_in a.trie.now) (rows_of a.run.now) in
    let (few, (room, held)) = united (goal.at.returns c).In-Ok in
    let copied = rw held at c.copy_rows.ensures in
    rw (copied ∙ held_copied a.united.now (map word_of rows) (length-map rows word_of) room a.trie.now) (merged _ _ c.requires.state.0 c.requires.state.1 few)
