-- Laws of the step that requires the full type of the top's paths. No contract cites this file.
use Rattle.std.specs.Prelude.{ℕ, ◌+◌, ◌≤◌, ◌<◌, ◌≡◌, refl, Bool, true, false, List, [], ◌∷◌, map, take, get_or}
use Rattle.std.proofs.Common.{arith, ◌∙◌}
use Rattle.std.proofs.Math.Option.{none}
use Rattle.rules.specs.Numbers.{refused}
use Rattle.rules.specs.Paths.{Empty, nodes_of, type_to_access_trie, Taken, full_type_required, add_taken, taken_tries}
use Rattle.rules.specs.Steps.{Result, empty_paths, full_step}
use Rattle.rules.proofs.StepLaws.{any_too_deep, stepped_some, all_deep, taken_each, Each, IsPath, trie_shallow}
use Rattle.rules.proofs.TypeLaws.{path_deep, types_in, types_few, TypeAt, type_there, type_missing}
use Rattle.rows.specs.States.{rows_in}
use Rattle.schema.specs.Items.{items_of, good_items}
use Rattle.path_tries.specs.Nodes.{Became}
use Rattle.type_table.specs.TypeTableLaws.{good_lawful}
use Rattle.full_types.specs.Pairs.{taken_at, AllPairs, any_taken_deep, AllTakenPaths}
use Rattle.full_types.specs.Required.{TypesTook}
use Rattle.wrapped_paths.specs.Code.{code}
use Rattle.result_stack.specs.Stacks.{Held, Reached, Replaced}
use Rattle.result_stack.specs.declared.Stack.{Stack}
use Rattle.result_stack.specs.StackLaws.{top_good, below_held, tries_end, top_few}
use Rattle.result_stack.specs.JudgingLaws.{Judging, unfit, replaced}

-- paths that take a type are paths
all_taken : (taken : List Taken) → Each (λ one. IsPath one.path) taken → AllTakenPaths taken
unfolding Each AllTakenPaths
all_taken [] paths = tt
all_taken (one ∷ more) paths = (paths.0, all_taken more paths.1)

-- paths with the tries of their types are too deep exactly where one of them is
taken_deep :
    (words : List ℕ) (taken : List Taken)
    → AllTakenPaths taken
    → any_too_deep (taken_tries (items_of words) taken) ≡ any_taken_deep words taken
unfolding any_too_deep any_taken_deep AllTakenPaths
taken_deep words [] good = refl
taken_deep words (one ∷ more) good =
    rw (
      path_deep one.path (type_to_access_trie (items_of words) one.type) (stepped_some one.path good.0.steps),
      taken_deep words more good.1,
    )

pairs_more : (words : List ℕ) (types more : ℕ) (pairs : List ℕ) → types ≤ more → AllPairs words types pairs → AllPairs words more pairs
unfolding AllPairs
pairs_more words types more [] h all = tt
pairs_more words types more (pair ∷ pairs) h all = (all.0, (omega (arith, all.1.0), pairs_more words types more pairs h all.1.1))

module _ (words : List ℕ) (good : good_items words ≡ true) where
  pub full_missing :
      (t : ℕ) (results : List Result)
      → types_in (items_of words) ≤ t
      → (place : ℕ)
      → full_step (items_of words) t place results ≡ refused 1 place
  full_missing t [] h place = rw (type_missing (items_of words) (good_lawful words good) t h, full_step)
  full_missing t (top ∷ rest) h place = rw (type_missing (items_of words) (good_lawful words good) t h, full_step)

  module _ (t : ℕ) (known : t < types_in (items_of words)) where
    line : TypeAt (items_of words) t
    line = type_there (items_of words) (good_lawful words good) t known

    pub full_few :
        {code_run tries : List ℕ} {stack : Stack} (results : List Result)
        → Held code_run tries stack results
        → stack.results ≡ 0
        → (place : ℕ)
        → full_step (items_of words) t place results ≡ refused 6 place
    full_few [] held few place = rw (line.from, full_step)
    full_few (top ∷ rest) held few place = absurd (omega (arith, held.layout.as_many))

    module _ {code_run tries : List ℕ} {stack : Stack} {top : Result} {rest : List Result} (held : Held code_run tries stack (top ∷ rest)) where
      pub full_mismatch :
          full_type_required (items_of words) top.paths t ≡ none
          → (place : ℕ)
          → full_step (items_of words) t place (top ∷ rest) ≡ refused 8 place
      full_mismatch e place = rw (line.from, e, full_step)

      module _ {pairs : List ℕ} {end more : ℕ} (k : TypesTook code_run (items_of words) top.paths t stack.code pairs end more) where
        abbrev taken : List Taken
        taken = map (taken_at code_run) (take more pairs)

        pub full_places : AllPairs code_run 1024 (take more pairs)
        full_places = pairs_more code_run (types_in (items_of words)) 1024 (take more pairs) (types_few (items_of words) (good_lawful words good)) k.all_pairs

        pub full_paths : AllTakenPaths taken
        full_paths = all_taken taken (taken_each IsPath (items_of words) top.paths t taken (top_good held).good_paths k.required)

        pub full_judging :
            Judging (λ place. full_step (items_of words) t place (top ∷ rest)) (empty_paths (add_taken (items_of words) top.trie taken)) rest (any_taken_deep words taken)
        unfolding nodes_of
        full_judging = record {
          answers = λ place. rw (line.from, k.required, full_step);
          few = top_few held;
          few_nodes = omega arith;
          depth =
              all_deep top.trie (taken_tries (items_of words) taken)
              ∙ rw (trie_shallow top.trie (top_good held).good_trie) (taken_deep words taken full_paths);
        }

        module _ (shallow : any_taken_deep words taken ≡ false) (state : List ℕ) {state' : List ℕ} {fits : Bool} (copy : rows_in state ≡ top.trie) (b : Became (add_taken (items_of words) (rows_in state) taken) state' fits) where
          became : Became (add_taken (items_of words) top.trie taken) state' fits
          became = rw copy at b

          pub full_rows : fits ≡ false → (place : ℕ) → full_step (items_of words) t place (top ∷ rest) ≡ refused 4 place
          full_rows = unfit full_judging shallow became

          pub full_done :
              {code_run' tries' : List ℕ} {after : Stack} {tend : ℕ}
              → fits ≡ true
              → tend ≡ stack.tries + 1 + get_or tries stack.tries 0
              → Replaced (code Empty) state' code_run end tries tend stack.results code_run' tries' after
              → Reached (λ place. full_step (items_of words) t place (top ∷ rest)) code_run' tries' after
          full_done fit te w =
              replaced full_judging shallow became fit (below_held held).layout held.layout.as_many
              (rw (k.ends, tries_end held te) at w)
