-- `type_table::type_to_access_trie` meets its contract: the rows of the attributes that are passed are written. The types that it calls
-- itself for are lower.
use Rattle.std.proofs.Common.{◌≡◌, ◌+◌, ◌/◌, ◌%◌, ◌^◌, ◌<◌, ◌≤◌, ℕ, true, length, get_or, length-set, arith, sym, ap, ◌∙◌}
use Rattle.rules.specs.Schema.{Item}
use Rattle.rules.proofs.TypeLaws.{deepest}
use Rattle.words.specs.RunLaws.{wrote_length}
use Rattle.type_table.specs.Tables.{type_rows, attribute_at}
use Rattle.type_table.specs.TypeTableLaws.{TypeStands, tabled_stands, tabled_inside, attribute_inside, passing_below, key_small, good_all, writing_none, writing_all, writing_room, writing_shallow, writing_next}
use Rattle.type_table.proofs.+type_to_access_trie.Goals as goal
use Rattle.type_table.proofs.+type_to_access_trie.Goals.{After-size_at-at, In-loop-item, After-from-item}

there : (t : ℕ) (c : After-size_at-at t) → TypeStands c.args.words.now c.args.t c.size_at-at.result.place
there t c = tabled_stands c.args.words.now c.args.table.now c.requires.words_value.0 c.requires.words_value.1 c.requires.t_bound c.size_at-at.ensures.0

-- in a turn, with the next attribute
here : (t : ℕ) (c : In-loop-item t) → attribute_at c.args.words.now c.loop-item.at ≡ true
here t c = sym c.is_attribute.ensures ∙ c.loop-item-test.true

below : (t : ℕ) (c : In-loop-item t) → TypeStands c.args.words.now c.args.t c.size_at-at.result.place → get_or c.args.words.now c.loop-item.at 0 / 16 % 2 ^ 36 < c.args.t
below t c stands = passing_below c.loop-item.invariant.passing (here t c) stands.lines.below

room :
    (t : ℕ) (c : In-loop-item t)
    → TypeStands c.args.words.now c.args.t c.size_at-at.result.place
    → c.loop-item.next + 1 + length (type_rows c.args.words.now (get_or c.args.words.now c.loop-item.at 0 / 16 % 2 ^ 36)) ≤ length c.loop-item.out
room t c stands = writing_room c.loop-item.invariant stands.rows (here t c) c.requires.t_in_bounds.0

shallow :
    (t : ℕ) (c : In-loop-item t)
    → TypeStands c.args.words.now c.args.t c.size_at-at.result.place
    → c.args.depth + 1 + deepest (type_rows c.args.words.now (get_or c.args.words.now c.loop-item.at 0 / 16 % 2 ^ 36)) ≤ 24
shallow t c stands = writing_shallow c.loop-item.invariant stands.rows (here t c) c.requires.t_in_bounds.1

value : (t : ℕ) (c : After-from-item t) → c.from-item.result.value ≡ get_or c.args.words.now c.loop-item.at 0 / 16 % 2 ^ 36
value t c = ap (λ (it : Item). it.value) c.from-item.ensures

key : (t : ℕ) (c : After-from-item t) → c.from-item.result.key ≡ get_or c.args.words.now c.loop-item.at 0 / 2 ^ 40
key t c = ap (λ (it : Item). it.key) c.from-item.ensures

pub size_at-at-requires : goal.size_at-at-requires
size_at-at-requires t c = tabled_inside c.args.words.now c.args.table.now c.requires.words_value.0 c.requires.words_value.1 c.requires.t_bound

pub overflow_add-at : goal.overflow_add-at
overflow_add-at t c = omega (arith, (there t (goal.at.overflow_add-at t c).After-size_at-at).inside)

pub loop-item-init : goal.loop-item-init
loop-item-init t c = writing_none _ _ _ _ _ (omega (arith, (there t (goal.at.loop-item-init t c).After-size_at-at).inside))

pub bounds-words-at : goal.bounds-words-at
bounds-words-at t c = attribute_inside _ _ (here t (goal.at.bounds-words-at t c).In-loop-item)

pub node-requires : goal.node-requires
node-requires t c =
    let at = goal.at.node-requires t c in (
      omega (arith, shallow t at.In-loop-item (there t at.After-size_at-at)),
      omega (arith, key t at.After-from-item, key_small _ c.loop-item.at (good_all _ c.requires.words_value.0) (attribute_inside _ _ (here t at.In-loop-item))),
    )

pub offset_bounds-out-next : goal.offset_bounds-out-next
offset_bounds-out-next t c =
    let at = goal.at.offset_bounds-out-next t c in
    omega (arith, wrote_length c.loop-item.invariant.wrote, room t at.In-loop-item (there t at.After-size_at-at))

pub bounds-out-next : goal.bounds-out-next
bounds-out-next t c =
    let at = goal.at.bounds-out-next t c in
    omega (arith, room t at.In-loop-item (there t at.After-size_at-at))

pub overflow_add-next : goal.overflow_add-next
overflow_add-next t c =
    let at = goal.at.overflow_add-next t c in
    omega (arith, wrote_length c.loop-item.invariant.wrote, room t at.In-loop-item (there t at.After-size_at-at))

pub type_to_access_trie-next-requires : goal.type_to_access_trie-next-requires
type_to_access_trie-next-requires t c =
    let at = goal.at.type_to_access_trie-next-requires t c in
    let v = value t at.After-from-item in
    let stands = there t at.After-size_at-at in
    let lower = below t at.In-loop-item stands in (
      omega (arith, v, lower, c.decreases),
      (
        c.requires.words_value,
        (
          omega (arith, v, lower, c.requires.t_bound),
          (rw (v, length-set) (room t at.In-loop-item stands), rw v (shallow t at.In-loop-item stands)),
        ),
      ),
    )

pub loop-item-smaller : goal.loop-item-smaller
loop-item-smaller t c = omega (arith, attribute_inside _ _ (here t (goal.at.loop-item-smaller t c).In-loop-item))

pub loop-item-preserved : goal.loop-item-preserved
loop-item-preserved t c =
    let at = goal.at.loop-item-preserved t c in
    writing_next c.loop-item.invariant (there t at.After-size_at-at).rows (here t at.In-loop-item) (value t at.After-from-item) (rw (← key t at.After-from-item) c.node.ensures) c.type_to_access_trie-next.ensures

pub returns : goal.returns
returns t c = writing_all c.loop-item.invariant (there t (goal.at.returns t c).After-size_at-at).rows (sym c.is_attribute.ensures ∙ c.loop-item-test.false)
