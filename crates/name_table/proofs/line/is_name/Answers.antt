-- `name_table::line::is_name` meets its contract: it has a byte, and each may stand in a name.
use native.Mathlib.Omega.{arith}
use mathlib.Core.Path.{◌∙◌}
use borrow.Author.Tests.{lt-ltb}
use Prim.Native.Nat.{◌<◌}
use lib.ListN.{length}
use Rattle.std.proofs.Common.{rules, tests}
use Rattle.std.proofs.lemmas.Iterator.{YieldsList-from_slice}
use Rattle.std.proofs.lemmas.Iterator.Search.{all_from_yields_List}
use Rattle.rules.specs.Names.{is_name_byte}
use Rattle.name_table.specs.NameLaws.{all_bytes}
use Rattle.name_table.proofs.line.is_name.Goals as goal

pub returns-then-not-is_empty : goal.returns-then-not-is_empty
returns-then-not-is_empty c =
    let name = c.args.name.now in
    let all = all_from_yields_List is_name_byte _ _ _ c.all.ensures.ran (YieldsList-from_slice name cc) (λ x b q k. search (rules, tests)) in
    let some : 0 < length name = grind arith in
    rw (lt-ltb 0 (length name) some) (all ∙ all_bytes name)
