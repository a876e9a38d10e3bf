-- `ancestors::requests::judge_requests` meets its contract: the requests of the rows that are passed are done.
use native.Mathlib.Omega.{arith}
use mathlib.Core.Path.{refl, sym, ◌∙◌}
use Rattle.ancestors.specs.RequestLaws.{asked_done, judging_none, judged_all, judged_refused, judging_next, judging_empty}
use Rattle.ancestors.proofs.requests.judge_requests.Goals as goal
use Rattle.ancestors.proofs.requests.judge_requests.Goals.{else-has_ancestors_trie, then-has_ancestors_trie+in_default}

pub loop-i-init : goal.loop-i-init
loop-i-init c = (refl, refl, judging_none _ _ _ _)

pub compute_ancestors_request-requires : goal.compute_ancestors_request-requires
compute_ancestors_request-requires c =
    record { nodes_len_bound = c.requires.nodes_len_bound; nodes_in_bounds = (omega (arith, c.requires.nodes_in_bounds.0, c.loop-i.invariant.0), omega (arith, c.requires.nodes_in_bounds.1, c.loop-i.invariant.1)) }

pub shape_of-rows-in-Err : goal.shape_of-rows-in-Err
shape_of-rows-in-Err c = c.compute_ancestors_request.auto.rows ∙ c.loop-i.invariant.0

pub shape_of-found-in-Err : goal.shape_of-found-in-Err
shape_of-found-in-Err c = c.compute_ancestors_request.auto.found ∙ c.loop-i.invariant.1

pub returns-in-Err : goal.returns-in-Err
returns-in-Err c =
    judged_refused _ _ _ _ c.loop-i.invariant.2 c.loop-i-test.true
    c.compute_ancestors_request.ensures c.in-Err.is

pub loop-i-preserved : goal.loop-i-preserved
loop-i-preserved c =
    elim c.if-has_ancestors_trie.branch [
      | then-has_ancestors_trie+in_default w ↦ rw (w.rows-is, w.found-is)
          (w.compute_ancestors_request.auto.rows ∙ c.loop-i.invariant.0, w.compute_ancestors_request.auto.found ∙ c.loop-i.invariant.1, judging_next _ _ _ _ c.loop-i.invariant.2 c.loop-i-test.true (asked_done w.compute_ancestors_request.ensures w.in_default.is _))
      | else-has_ancestors_trie w ↦ rw (w.rows-is, w.found-is)
          (c.loop-i.invariant.0, c.loop-i.invariant.1, judging_empty _ _ _ _ c.loop-i.invariant.2 c.loop-i-test.true (sym c.has_ancestors_trie.ensures ∙ w.if-has_ancestors_trie.false))
    ]

pub shape_of-rows : goal.shape_of-rows
shape_of-rows c = c.loop-i.invariant.0

pub shape_of-found : goal.shape_of-found
shape_of-found c = c.loop-i.invariant.1

pub returns : goal.returns
returns c = judged_all _ _ _ _ c.loop-i.invariant.2 c.loop-i-test.false
