-- `ancestors::requests::write_requests` meets its contract: the requests of the rows that are passed are written.
use native.Mathlib.Omega.{arith}
use Prim.Native.Nat.{◌-◌}
use mathlib.Core.Path.{◌≡◌, refl, sym, ap, ◌∙◌}
use lib.ListN.{length, length-set, length-take}
use lib.Seq.{length-sets}
use Rattle.rows.specs.States.{rows_of}
use Rattle.row_walk.specs.Initial.{request_with as request_of}
use Rattle.ancestors.specs.Sets.{ids_of, IsSet}
use Rattle.ancestors.specs.Requests.{head_of}
use Rattle.ancestors.specs.SliceWords.{slice_in}
use Rattle.ancestors.specs.RequestLaws.{IdsWritten, no_ids, writing_none, writing_length, written, asked_done, not_refused, writing_room, writing_next}
use Rattle.ancestors.proofs.requests.write_requests.Goals as goal
use Rattle.ancestors.proofs.requests.write_requests.Goals.{Joined-has_ancestors_trie, else-has_ancestors_trie, then-has_ancestors_trie+in-Ok, then-has_ancestors_trie+in_default}

pub overflow_add-at : goal.overflow_add-at
overflow_add-at c = omega (arith, c.requires.may_write.room, c.well_formed)

pub loop-i-init : goal.loop-i-init
loop-i-init c = (refl, refl, writing_none _ _ _ _ _)

pub compute_ancestors_request-requires : goal.compute_ancestors_request-requires
compute_ancestors_request-requires c =
    record { nodes_len_bound = c.requires.nodes_len_bound; nodes_in_bounds = (omega (arith, c.requires.nodes_in_bounds.0, c.loop-i.invariant.0), omega (arith, c.requires.nodes_in_bounds.1, c.loop-i.invariant.1)) }

pub write_ids-at-requires : goal.write_ids-at-requires
write_ids-at-requires c =
    (rw c.in-Ok.is at c.compute_ancestors_request.ensures.asked, omega (arith, writing_room _ _ _ _ c.requires.may_write c.loop-i.invariant.2 c.loop-i-test.true (asked_done c.compute_ancestors_request.ensures c.in-Ok.is c.loop-i.i), writing_length _ _ _ _ c.requires.may_write c.loop-i.invariant.2))

-- the ids of the row are written, if its node has an ancestors trie
ids : (c : Joined-has_ancestors_trie) →
    IdsWritten (request_of c.args.request c.args.context.now) (rows_of c.args.nodes.now) (slice_in c.args.slice.now) c.args.asked.now
    c.loop-i.i c.loop-i.out c.loop-i.at c.if-has_ancestors_trie.out c.if-has_ancestors_trie.at
ids c =
    elim c.if-has_ancestors_trie.branch [
      | then-has_ancestors_trie+in-Ok w ↦ rw (w.out-is, w.at-is)
          (let is : IsSet w.in-Ok.set = rw w.in-Ok.is at w.compute_ancestors_request.ensures.asked in
          record {
            wanted = ids_of w.in-Ok.set;
            is = asked_done w.compute_ancestors_request.ensures w.in-Ok.is c.loop-i.i;
            wrote = w.write_ids-at.ensures;
            few = omega (arith, length-take w.in-Ok.set.len w.in-Ok.set.ids, is.few);
          })
      | then-has_ancestors_trie+in_default w ↦ absurd (not_refused _ _ _ _ c.requires.may_write c.loop-i.invariant.2 c.loop-i-test.true w.compute_ancestors_request.ensures w.in_default.is)
      | else-has_ancestors_trie w ↦ rw (w.out-is, w.at-is) (no_ids _ _ _ _ _ _ (sym c.has_ancestors_trie.ensures ∙ w.if-has_ancestors_trie.false))
    ]

-- scratch keeps its length
lengths : (c : Joined-has_ancestors_trie) →
    (length c.if-has_ancestors_trie.rows ≡ length c.args.rows.now) × (length c.if-has_ancestors_trie.found ≡ length c.args.found.now)
lengths c =
    elim c.if-has_ancestors_trie.branch [ then-has_ancestors_trie+in-Ok w ↦ rw (w.rows-is, w.found-is) (w.compute_ancestors_request.auto.rows ∙ c.loop-i.invariant.0, w.compute_ancestors_request.auto.found ∙ c.loop-i.invariant.1) | then-has_ancestors_trie+in_default w ↦ rw (w.rows-is, w.found-is) (w.compute_ancestors_request.auto.rows ∙ c.loop-i.invariant.0, w.compute_ancestors_request.auto.found ∙ c.loop-i.invariant.1) | else-has_ancestors_trie w ↦ rw (w.rows-is, w.found-is) (c.loop-i.invariant.0, c.loop-i.invariant.1) ]

-- the length of the output is kept
long : (c : Joined-has_ancestors_trie) → length c.if-has_ancestors_trie.out ≡ length c.args.out.now
long c =
    rw ((ids c).wrote.text, length-sets) (writing_length _ _ _ _ c.requires.may_write c.loop-i.invariant.2)

pub overflow_sub-head : goal.overflow_sub-head
overflow_sub-head c = omega (arith, (ids (goal.at.overflow_sub-head c).Joined-has_ancestors_trie).wrote.after)

pub word-requires : goal.word-requires
word-requires c = (omega (arith, c.from.ensures.0), omega (arith, (ids (goal.at.word-requires c).Joined-has_ancestors_trie).wrote.after, (ids (goal.at.word-requires c).Joined-has_ancestors_trie).few))

pub overflow_add-out : goal.overflow_add-out
overflow_add-out c = omega (arith, c.loop-i-test.true, c.well_formed)

pub offset_bounds-out-i : goal.offset_bounds-out-i
offset_bounds-out-i c = omega (arith, c.requires.may_write.room, long (goal.at.offset_bounds-out-i c).Joined-has_ancestors_trie, c.loop-i-test.true, c.well_formed)

pub bounds-out-i : goal.bounds-out-i
bounds-out-i c = omega (arith, c.requires.may_write.room, long (goal.at.bounds-out-i c).Joined-has_ancestors_trie, c.loop-i-test.true)

pub loop-i-preserved : goal.loop-i-preserved
loop-i-preserved c = (
  (lengths (goal.at.loop-i-preserved c).Joined-has_ancestors_trie).0,
  (lengths (goal.at.loop-i-preserved c).Joined-has_ancestors_trie).1,
  writing_next _ _ _ _ c.requires.may_write c.loop-i.invariant.2 c.loop-i-test.true (ids (goal.at.loop-i-preserved c).Joined-has_ancestors_trie) (c.word.ensures ∙ ap (λ id. head_of id (c.if-has_ancestors_trie.at - c.loop-i.at)) c.from.ensures.0),
)

pub bounds-out-0 : goal.bounds-out-0
bounds-out-0 c = omega (arith, c.requires.may_write.room, writing_length _ _ _ _ c.requires.may_write c.loop-i.invariant.2)

pub shape_of-rows : goal.shape_of-rows
shape_of-rows c = c.loop-i.invariant.0

pub shape_of-found : goal.shape_of-found
shape_of-found c = c.loop-i.invariant.1

pub shape_of-out : goal.shape_of-out
shape_of-out c = rw length-set (writing_length _ _ _ _ c.requires.may_write c.loop-i.invariant.2)

pub returns : goal.returns
returns c = written _ _ _ _ c.requires.may_write c.loop-i.invariant.2 c.loop-i-test.false
