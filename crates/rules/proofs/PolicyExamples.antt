-- Worked examples of policy texts (Policies), which the checker computes: what each comes to from an empty manifest and an empty schema.
-- The answers were written by the program, `terbagyl build`.
use Rattle.std.specs.Prelude.{ℕ, zero, suc, ◌≡◌, refl, List, [], ◌∷◌, ◌++◌, map}
use Rattle.rules.specs.Numbers.{Answer, accepted, refused}
use Rattle.rules.specs.Text.{bytes, parted, number_from, decimal_up_to, decimal_in, decimal}
use Rattle.rules.specs.Tries.{Row, same_list, union, union_onto, next, count}
use Rattle.rules.specs.Listing.{listing, line_of, place_in, row_of}
use Rattle.rules.specs.Schema.{ascending}
use Rattle.rules.specs.Paths.{paths_in, nodes_of, field_of, get_or_has_attr, deeper, chain, to_root_access_trie_with_leaf, union_all}
use Rattle.rules.specs.Steps.{step_from, wrapped, is_too_deep, apply}
use Rattle.rules.specs.Lines.{fold_lines}
use Rattle.rules.specs.Policies.{add_policy}

abbrev listed : Answer (List Row) → Answer (List ℕ)
listed (accepted rows) = accepted (listing rows)
listed (refused number place) = refused number place

abbrev texts : List (List ℕ)
texts =
    bytes ""
    ∷ bytes "A\t10\t500\t20\nvar\tp\nattr\t7\n"
    ∷ bytes "A\t10\t500\t20\nvar\tp\nA\t10\t500\t21\nvar\tr\nattr\t3\n"
    ∷ bytes "attr\t7\n"
    ∷ bytes "var\tp"
    ∷ bytes "\n"
    ∷ bytes "A\t10\t500\t20"
    ∷ bytes "A\t10\t500\t20\n"
    ∷ bytes "A\t10\t500\t20\nA\t10\t500\t21\nvar\tp\n"
    ∷ bytes "A\t10\t500\t20\nvar\tp\nvar\tr\n"
    ∷ bytes "A\t10\t500\t20\nvar\tp\nvar\tr\nA\t1\t2\t3\nvar\tp\n"
    ∷ bytes "A\t10\t500\t20\nvar\tp\nA\t10\t500\t65536\nvar\tp\n"
    ∷ bytes "A\t10\t500\t20\nvar\tp\nattr\t7"
    ∷ bytes "A\t10\t500\t20\nvar\tp\nA\t10\t500\t20"
    ∷ bytes "A\t10\t500\t20\nvar\tp\nN\t1\tp\t0\t0\n"
    ∷ bytes "N\t1\tp\t0\t0\n"
    ∷ bytes "A\t10\t500\t20\nvar\tp\nA\t1\t2\t3\nunion\n"
    ∷ []

policy_examples :
    map (λ text. listed (add_policy [] [] text)) texts
    ≡ accepted (bytes "")
    ∷ accepted (bytes "A\t10\t500\t20\nN\t1\tp\t0\t0\nN\t2\tf\t7\t0\n")
    ∷ accepted (bytes "A\t10\t500\t20\nA\t10\t500\t21\nN\t1\tr\t0\t0\nN\t2\tf\t3\t0\n")
    ∷ refused 1 0
    ∷ refused 1 0
    ∷ refused 1 0
    ∷ refused 1 0
    ∷ refused 6 1
    ∷ refused 6 1
    ∷ refused 6 3
    ∷ refused 6 3
    ∷ refused 1 2
    ∷ refused 1 2
    ∷ refused 1 2
    ∷ refused 1 2
    ∷ refused 1 0
    ∷ refused 6 3
    ∷ []
unfolding parted number_from decimal_up_to decimal_in same_list union union_onto next count listing line_of place_in row_of ascending paths_in
    nodes_of field_of get_or_has_attr deeper chain to_root_access_trie_with_leaf union_all step_from wrapped is_too_deep apply fold_lines
policy_examples = refl

-- a text of so many request types, and 5 for the 65th at the line that ends its contribution
types : ℕ → List ℕ
types zero = []
types (suc n) = types n ++ (bytes "A\t1\t1\t" ++ (decimal n ++ bytes "\nnone\n"))

one_type_too_many : add_policy [] [] (types 65) ≡ refused 5 130
unfolding parted number_from decimal_up_to decimal_in same_list union union_onto next count listing line_of place_in row_of ascending paths_in
    nodes_of field_of get_or_has_attr deeper chain to_root_access_trie_with_leaf union_all step_from wrapped is_too_deep apply fold_lines types
one_type_too_many = refl
