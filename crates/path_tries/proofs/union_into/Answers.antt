-- `path_tries::union_into` meets its contract: an empty run changes nothing, an empty trie is filled, and otherwise either buffer is long enough.
use native.Mathlib.Omega.{arith}
use mathlib.Core.Path.{sym, ◌∙◌}
use Rattle.std.proofs.Common.{eqb-true}
use mathlib.Core.Logic.{inl, inr}
use Rattle.path_tries.specs.NodeLaws.{state_count, nothing_merged}
use Rattle.path_tries.proofs.union_into.Goals as goal

pub returns-then-is_empty : goal.returns-then-is_empty
returns-then-is_empty c = nothing_merged c.args.run.now c.requires.0 (eqb-true _ 0 (sym c.is_empty.ensures ∙ c.if-is_empty.true))

pub fill-requires : goal.fill-requires
fill-requires c = (c.requires.0, (c.requires.1, c.if-trie-eq0.true))

pub union_by-requires : goal.union_by-requires
union_by-requires c =
    record { state = c.requires; roomy = (inr (omega (arith, state_count c.requires.0, c.if-rows-lt-FEW.true)), omega arith) }

pub union_by-requires-2 : goal.union_by-requires-2
union_by-requires-2 c = record { state = c.requires; roomy = (inl (omega arith), omega arith) }
