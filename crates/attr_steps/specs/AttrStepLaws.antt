-- Laws of the step that adds a field to the top's paths. No contract cites this file.
use Rattle.std.specs.Prelude.{ℕ, ◌+◌, ◌≤◌, ◌<◌, ◌≡◌, refl, Bool, true, false, List, [], ◌∷◌, ◌++◌, eqb, take, get_or}
use Rattle.std.proofs.Common.{arith, ◌∙◌, length-append, length-take-le}
use Rattle.std.proofs.Math.Option.{none, some, none-ne-some, some-injective}
use Rattle.std.proofs.Math.ListN.{length}
use Rattle.rules.specs.Facts.{by_test, by_option}
use Rattle.rules.specs.Numbers.{refused}
use Rattle.rules.specs.Paths.{Path, Paths, Empty, AccessPath, Union, RecordLiteral, SetLiteral, Fields, no_field, field, empty_leaf, paths_in, nodes_of, nodes_of_fields, field_of, field_or, get_or_has_attr, add_paths}
use Rattle.rules.specs.Steps.{Result, restored, attr_step}
use Rattle.rules.proofs.StepLaws.{grown_in, each_then, attr_grown, attr_deep, grown_paths, Each, AllPaths, each_append}
use Rattle.rules.proofs.ListingLaws.{bind_some}
use Rattle.rules.proofs.TypeLaws.{deepest}
use Rattle.rows.specs.States.{rows_in}
use Rattle.wrapped_paths.specs.Code.{code, Measures, paths_at, Grew}
use Rattle.wrapped_paths.specs.AttrLaws.{grown_nodes, grown_few}
use Rattle.path_tries.specs.Nodes.{Became, any_deep}
use Rattle.wrapped_paths.specs.Turns.{Growing}
use Rattle.result_stack.specs.Stacks.{Held, Reached, Replaced, Scratch}
use Rattle.result_stack.specs.declared.Stack.{Stack}
use Rattle.result_stack.specs.StackLaws.{top_good, below, below_held, top_stands, code_end, tries_end, top_few}
use Rattle.result_stack.specs.JudgingLaws.{any-deep, none_deep, Judging, unfit, replaced}

grown_some : (f : ℕ) (paths : Paths) → Each (λ path. 0 < length path) (grown_in f paths)
unfolding grown_in Each
grown_some f Empty = tt
grown_some f (AccessPath path) = (omega (arith, length-append path (f ∷ [])), tt)
grown_some f (Union left right) = each_append (λ path. 0 < length path) (grown_in f right) (grown_in f left) (grown_some f right) (grown_some f left)
grown_some f (RecordLiteral fields) = tt
grown_some f (SetLiteral elements) = tt

-- no path nodes are added
field_nodes : (f : ℕ) (fields : Fields) (paths : Paths) → field_of f fields ≡ some paths → nodes_of paths ≤ nodes_of_fields fields
unfolding field_of nodes_of_fields
field_nodes f no_field paths e = absurd (none-ne-some paths e)
field_nodes f (field name own fields) paths e =
    by_test (eqb name f)
    (λ h. rw (← some-injective own paths (rw h at e)) (omega arith))
    (λ h. omega (arith, field_nodes f fields paths (rw h at e)))

attr_nodes : (f : ℕ) (paths after : Paths) → get_or_has_attr f paths ≡ some after → nodes_of after ≤ nodes_of paths
unfolding get_or_has_attr nodes_of
attr_nodes f Empty after e = rw (← some-injective Empty after e) (omega arith)
attr_nodes f (AccessPath path) after e = rw (← some-injective (AccessPath (path ++ (f ∷ []))) after e) (omega arith)
attr_nodes f (Union a b) after e =
    bind_some (get_or_has_attr f b) _ after e λ b' eb e.
    bind_some (get_or_has_attr f a) _ after e λ a' ea e.
    rw (← some-injective (Union a' b') after e) (omega (arith, attr_nodes f a a' ea, attr_nodes f b b' eb))
attr_nodes f (RecordLiteral fields) after e =
    rw (← some-injective (field_or (field_of f fields) (RecordLiteral fields)) after e)
    (by_option (field_of f fields)
    (λ h. rw h (omega arith))
    (λ own h. rw h (omega (arith, field_nodes f fields own h))))
attr_nodes f (SetLiteral elements) after e = absurd (none-ne-some after e)

pub attr_few :
    {code_run tries : List ℕ} {stack : Stack} (f : ℕ) (results : List Result)
    → Held code_run tries stack results
    → stack.results ≡ 0
    → (place : ℕ)
    → attr_step place f results ≡ refused 6 place
attr_few f [] held few place = refl
attr_few f (top ∷ rest) held few place = absurd (omega (arith, held.layout.as_many))

module _ {code_run tries : List ℕ} {stack : Stack} {top : Result} {rest : List Result} (held : Held code_run tries stack (top ∷ rest)) (f : ℕ) where
  -- its scratch has room for the words after the step
  pub attr_grows : {out : List ℕ} → 256 ≤ stack.code → Scratch code_run out → Growing code_run stack.code f out
  unfolding top_stands
  attr_grows room scratch =
      let few = (top_good held).few_nodes in
      record {
        result = top_stands held;
        fits =
            scratch (length (code top.paths) + length (grown_in f top.paths))
            (omega (arith, (below_held held).layout.in_code, grown_nodes f top.paths, few))
            (omega (arith, grown_few f top.paths (top_good held).good_paths, few));
      }

  pub attr_set : get_or_has_attr f top.paths ≡ none → (place : ℕ) → attr_step place f (top ∷ rest) ≡ refused 7 place
  attr_set e place = rw (e, attr_step)

  module _ (small : f < 65536) {out places : List ℕ} {words grown : ℕ} (g : Grew f top.paths out places words grown) where
    abbrev gained : List Path
    gained = paths_at out (take grown places)

    -- the words after the step fit before the end of the top
    pub attr_room : {end : ℕ} → 256 ≤ stack.code → end ≡ (below held).code → (length (take words out) ≤ end) × (end ≤ length code_run)
    attr_room room e = (
      omega (arith, length-take-le words out g.in_out, g.few_words, grown_nodes f top.paths, (top_good held).few_nodes),
      omega (arith, (below_held held).layout.in_code),
    )

    pub attr_judging : Judging (λ place. attr_step place f (top ∷ rest)) (restored top.trie g.after) rest (any_deep gained 0)
    unfolding deepest
    attr_judging = record {
      answers = λ place. rw (g.extended, attr_step);
      few = top_few held;
      few_nodes = omega (arith, attr_nodes f top.paths g.after g.extended, (top_good held).few_nodes);
      depth =
          attr_deep top f g.after (top_good held) g.extended
          ∙ any-deep (grown_in f top.paths) empty_leaf (grown_some f top.paths)
          ∙ rw g.there;
    }

    module _ (shallow : any_deep gained 0 ≡ false) where
      grown_good : AllPaths (grown_in f top.paths)
      grown_good =
          grown_paths f top.paths small (top_good held).good_paths
          (each_then (λ path. length path + 0 ≤ 24) (λ path. length path ≤ 24) (λ path h. omega arith) (grown_in f top.paths)
          (none_deep (grown_in f top.paths) 0 (rw (← g.there) shallow)))

      pub attr_paths : AllPaths gained
      attr_paths = rw g.there grown_good

      module _ (state : List ℕ) {state' : List ℕ} {fits : Bool} (copy : rows_in state ≡ top.trie) (b : Became (add_paths (rows_in state) gained empty_leaf) state' fits) where
        became : Became (add_paths top.trie (paths_in g.after) empty_leaf) state' fits
        became = rw (copy, g.there, ← attr_grown top f g.after (top_good held) g.extended grown_good) at b

        pub attr_rows : fits ≡ false → (place : ℕ) → attr_step place f (top ∷ rest) ≡ refused 4 place
        attr_rows = unfit attr_judging shallow became

        pub attr_done :
            {code_run' tries' : List ℕ} {after : Stack} {end nodes tend : ℕ}
            → fits ≡ true
            → Measures code_run stack.code 1 end nodes
            → tend ≡ stack.tries + 1 + get_or tries stack.tries 0
            → Replaced (take words out) state' code_run end tries tend stack.results code_run' tries' after
            → Reached (λ place. attr_step place f (top ∷ rest)) code_run' tries' after
        attr_done fit m te w =
            replaced attr_judging shallow became fit (below_held held).layout held.layout.as_many
            (rw (code_end held m, g.coded, tries_end held te) at w)
