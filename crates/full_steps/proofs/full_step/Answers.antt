-- `full_steps::full_step` meets its contract: every path of the top takes the trie of its type, and all go into the top's trie.
use Prim.Native.Nat.{◌<◌}
use mathlib.Core.Path.{◌≡◌, refl, sym, ◌∙◌}
use mathlib.Core.List.{List, ◌∷◌}
use native.Mathlib.Omega.{arith}
use lib.Seq.{length-take-le}
use Rattle.rules.specs.Steps.{Result}
use Rattle.rules.proofs.TypeLaws.{types_in}
use Rattle.schema.specs.Items.{items_of}
use Rattle.wrapped_paths.specs.Code.{code, codes}
use Rattle.type_table.specs.Tables.{GoodTypes}
use Rattle.full_types.specs.Required.{TypesTook}
use Rattle.result_stack.specs.Stacks.{stack_paths, Held}
use Rattle.full_steps.specs.FullStepLaws.{full_missing, full_few, full_mismatch, full_places, full_paths, full_judging, full_rows, full_done}
use Rattle.result_stack.specs.JudgingLaws.{judging_deep, copied_top}
use Rattle.result_stack.specs.StackLaws.{top_code, top_good, top_at, tries_end, top_stands, held_top, code_end_room, tries_end_room}
use Rattle.full_steps.proofs.full_step.Goals as goal
use Rattle.full_steps.proofs.full_step.Goals.{Else-stack-eq0, Else-types-t, In-Some, Start}

-- the type is one of the schema, and the table says its sizes
known : (c : Else-types-t) → c.args.t < types_in (items_of c.args.types.now.words.now)
known c = omega (arith, c.args.types.now.good.all_types, c.if-types-t.false)

types : (c : Start) → GoodTypes c.args.types.now.words.now c.args.types.now.table.now (types_in (items_of c.args.types.now.words.now))
types c = rw c.args.types.now.good.all_types at c.args.types.now.good

-- the result on top
topped :
    (c : Else-stack-eq0) (results : List Result)
    → Held c.args.code.now c.args.tries.now c.args.stack results
    → (top : Result) × (rest : List Result) × (results ≡ top ∷ rest) × Held c.args.code.now c.args.tries.now c.args.stack (top ∷ rest)
topped c results held = held_top results held (omega (arith, c.if-stack-eq0.false))

-- which of its paths takes which type
took :
    (c : In-Some) (top : Result) (rest : List Result)
    → Held c.args.code.now c.args.tries.now c.args.stack (top ∷ rest)
    → TypesTook
    c.args.code.now
    (items_of c.args.types.now.words.now)
    top.paths
    c.args.t
    c.args.stack.code
    c.full_type_required.new.pairs
    c.in-Some.required.end
    c.in-Some.required.pairs
took c top rest held = (rw c.in-Some.is at c.full_type_required.ensures) top.paths (codes (stack_paths rest)) (top_code held) (top_good held).good_paths

pub returns-then-types-t : goal.returns-then-types-t
returns-then-types-t c results held place =
    full_missing c.args.types.now.words.now c.args.types.now.good.good-items c.args.t results (omega (arith, c.args.types.now.good.all_types, c.if-types-t.true)) place

pub returns-then-stack-eq0 : goal.returns-then-stack-eq0
returns-then-stack-eq0 c results held place =
    full_few c.args.types.now.words.now c.args.types.now.good.good-items c.args.t (known (goal.at.returns-then-stack-eq0 c).Else-types-t) results held c.if-stack-eq0.true place

pub full_type_required-requires : goal.full_type_required-requires
full_type_required-requires c =
    let (top, rest, same, held) = topped (goal.at.full_type_required-requires c).Else-stack-eq0 c.requires.holding.results c.requires.holding.held in (
      omega (arith, c.if-types-t.false),
      record { result = top_stands held; short = c.requires.holding.few_words; places = refl },
    )

pub returns-in_default : goal.returns-in_default
returns-in_default c results held place =
    let (top, rest, same, h) = topped (goal.at.returns-in_default c).Else-stack-eq0 results held in
    let none_there = (rw c.in_default.is at c.full_type_required.ensures) top.paths (codes (stack_paths rest)) (top_code h) (top_good h).good_paths in
    rw same (full_mismatch c.args.types.now.words.now c.args.types.now.good.good-items c.args.t (known (goal.at.returns-in_default c).Else-types-t) h none_there place)

pub slice_bounds-pairs-end : goal.slice_bounds-pairs-end
slice_bounds-pairs-end c =
    let (top, rest, same, held) = topped (goal.at.slice_bounds-pairs-end c).Else-stack-eq0 c.requires.holding.results c.requires.holding.held in
    (took (goal.at.slice_bounds-pairs-end c).In-Some top rest held).in_pairs

pub slice_bounds-taken-end : goal.slice_bounds-taken-end
slice_bounds-taken-end c =
    let (top, rest, same, held) = topped (goal.at.slice_bounds-taken-end c).Else-stack-eq0 c.requires.holding.results c.requires.holding.held in
    sym (length-take-le c.in-Some.required.pairs c.full_type_required.new.pairs (took (goal.at.slice_bounds-taken-end c).In-Some top rest held).in_pairs)

pub is_any_too_deep-requires : goal.is_any_too_deep-requires
is_any_too_deep-requires c =
    let (top, rest, same, held) = topped (goal.at.is_any_too_deep-requires c).Else-stack-eq0 c.requires.holding.results c.requires.holding.held in
    (full_places c.args.types.now.words.now c.args.types.now.good.good-items c.args.t (known (goal.at.is_any_too_deep-requires c).Else-types-t) held (took (goal.at.is_any_too_deep-requires c).In-Some top rest held), c.args.types.now.good.tabled.0)

pub returns-then-is_any_too_deep : goal.returns-then-is_any_too_deep
returns-then-is_any_too_deep c results held place =
    let (top, rest, same, h) = topped (goal.at.returns-then-is_any_too_deep c).Else-stack-eq0 results held in
    rw same
    (judging_deep (full_judging c.args.types.now.words.now c.args.types.now.good.good-items c.args.t (known (goal.at.returns-then-is_any_too_deep c).Else-types-t) h (took (goal.at.returns-then-is_any_too_deep c).In-Some top rest h))
    ((sym (c.is_any_too_deep.ensures c.args.types.now.words.now (types_in (items_of c.args.types.now.words.now)) (types (goal.at.returns-then-is_any_too_deep c).Start).tabled (took (goal.at.returns-then-is_any_too_deep c).In-Some top rest h).all_pairs)) ∙ c.if-is_any_too_deep.true) place)

pub copy_trie-requires : goal.copy_trie-requires
copy_trie-requires c =
    let (top, rest, same, held) = topped (goal.at.copy_trie-requires c).Else-stack-eq0 c.requires.holding.results c.requires.holding.held in
    (top_at held, c.requires.trie_length)

pub add_taken-requires : goal.add_taken-requires
add_taken-requires c =
    let (top, rest, same, held) = topped (goal.at.add_taken-requires c).Else-stack-eq0 c.requires.holding.results c.requires.holding.held in
    let taken = took (goal.at.add_taken-requires c).In-Some top rest held in
    record {
      state = c.copy_trie.ensures.0;
      all_pairs = rw c.args.types.now.good.all_types taken.all_pairs;
      all_paths = full_paths c.args.types.now.words.now c.args.types.now.good.good-items c.args.t (known (goal.at.add_taken-requires c).Else-types-t) held taken;
      none_deep =
          sym (c.is_any_too_deep.ensures c.args.types.now.words.now (types_in (items_of c.args.types.now.words.now)) (types (goal.at.add_taken-requires c).Start).tabled taken.all_pairs)
          ∙ c.if-is_any_too_deep.false;
    }

pub shape_of-trie-then-not-add_taken : goal.shape_of-trie-then-not-add_taken
shape_of-trie-then-not-add_taken c = c.add_taken.auto.trie ∙ c.copy_trie.auto.out

pub returns-then-not-add_taken : goal.returns-then-not-add_taken
returns-then-not-add_taken c results held place =
    let (top, rest, same, h) = topped (goal.at.returns-then-not-add_taken c).Else-stack-eq0 results held in
    rw same
    (full_rows c.args.types.now.words.now c.args.types.now.good.good-items c.args.t (known (goal.at.returns-then-not-add_taken c).Else-types-t)
    h
    (took (goal.at.returns-then-not-add_taken c).In-Some top rest h)
    ((sym (c.is_any_too_deep.ensures c.args.types.now.words.now (types_in (items_of c.args.types.now.words.now)) (types (goal.at.returns-then-not-add_taken c).Start).tabled (took (goal.at.returns-then-not-add_taken c).In-Some top rest h).all_pairs)) ∙ c.if-is_any_too_deep.false)
    c.copy_trie.new.out
    (copied_top h c.copy_trie.ensures)
    c.add_taken.ensures
    (c.if-not-add_taken.true) place)

pub trie_end-tries_end-requires : goal.trie_end-tries_end-requires
trie_end-tries_end-requires c =
    let (top, rest, same, held) = topped (goal.at.trie_end-tries_end-requires c).Else-stack-eq0 c.requires.holding.results c.requires.holding.held in
    top_at held

pub replace-requires : goal.replace-requires
replace-requires c =
    let (top, rest, same, held) = topped (goal.at.replace-requires c).Else-stack-eq0 c.requires.holding.results c.requires.holding.held in
    let code_room = code_end_room held c.requires.holding.code_room (took (goal.at.replace-requires c).In-Some top rest held).ends in
    let tries_room = tries_end_room held c.requires.holding.tries_room (tries_end held c.trie_end-tries_end.ensures.0) in
    record {
      paths_fit = code_room;
      trie_fits = (c.add_taken.ensures.still, (omega (arith, c.add_taken.ensures.still.few_rows, tries_room.0), tries_room.1));
    }

pub shape_of-trie : goal.shape_of-trie
shape_of-trie c = c.add_taken.auto.trie ∙ c.copy_trie.auto.out

pub returns : goal.returns
unfolding code
returns c results held =
    let (top, rest, same, h) = topped (goal.at.returns c).Else-stack-eq0 results held in
    rw same
    (full_done c.args.types.now.words.now c.args.types.now.good.good-items c.args.t (known (goal.at.returns c).Else-types-t)
    h
    (took (goal.at.returns c).In-Some top rest h)
    ((sym (c.is_any_too_deep.ensures c.args.types.now.words.now (types_in (items_of c.args.types.now.words.now)) (types (goal.at.returns c).Start).tabled (took (goal.at.returns c).In-Some top rest h).all_pairs)) ∙ c.if-is_any_too_deep.false)
    c.copy_trie.new.out
    (copied_top h c.copy_trie.ensures)
    c.add_taken.ensures
    (c.if-not-add_taken.false)
    c.trie_end-tries_end.ensures.0
    (rw c.word.ensures at c.replace.ensures))
