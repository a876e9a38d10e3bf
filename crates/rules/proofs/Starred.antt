-- The starred cases of document 01, 'Edges and slips' and 'Listing', as one table that the checker computes.
use Rattle.std.specs.Prelude.{ℕ, ◌≡◌, refl, true, false, List, [], ◌∷◌, map}
use Rattle.rules.specs.Numbers.{Answer, accepted, refused}
use Rattle.rules.specs.Text.{bytes, parted, number_from, decimal_up_to, decimal_in}
use Rattle.rules.specs.Tries.{Row, request_of, step_of, same_list, union, union_onto, next, ordered, count}
use Rattle.rules.specs.Listing.{listing, line_of, place_in, read}
use Rattle.rules.specs.Building.{build}
use Rattle.rules.specs.Schema.{ascending}
use Rattle.rules.specs.Paths.{
  Paths,
  Empty,
  AccessPath,
  RecordLiteral,
  no_field,
  field,
  paths_in,
  nodes_of,
  field_of,
  get_or_has_attr,
  deeper,
  chain,
  to_root_access_trie_with_leaf,
  union_all,
}
use Rattle.rules.specs.Lines.{Folded, fold_lines}
use Rattle.rules.specs.Steps.{Result, result, step_from, wrapped, is_too_deep, apply, run, analyse}

-- A case: step texts, what each comes to, and the listing once the contributions of those that are accepted are added to an empty
-- manifest, all under request type (10, 500, 20).
pub record Case : Type 0 where
  pub texts : List (List ℕ)
  pub runs : List (Answer (Folded (List Result)))
  pub manifest : List ℕ

abbrev onto : Answer (List Row) → List (List Row) → List (List Row)
onto (accepted rows) contributions = rows ∷ contributions
onto (refused number place) contributions = contributions

abbrev contributions : List (List ℕ) → List (List Row)
contributions [] = []
contributions (text ∷ texts) = onto (analyse [] (request_of 10 500 20) text) (contributions texts)

-- what comes of some texts
abbrev pub outcome : List (List ℕ) → Case
outcome texts = record { texts = texts; runs = map (run []) texts; manifest = listing (build [] (contributions texts)) }

abbrev principal : ℕ
principal = step_of 1 0

abbrev resource : ℕ
resource = step_of 3 0

-- one result on the stack after so many lines
abbrev one : ℕ → List Row → Paths → Answer (Folded (List Result))
one lines trie paths = accepted (record { lines = lines; state = result trie paths ∷ [] })

abbrev attribute : Answer (Folded (List Result))
attribute = one 2 (read 1 principal false ∷ read 2 7 false ∷ []) (AccessPath (principal ∷ 7 ∷ []))

abbrev pub cases : List Case
cases =
    -- `var p` alone: empty trie. Empty contribution: the entry exists with no nodes
    record {
      texts = bytes "var\tp\n" ∷ [];
      runs = one 1 [] (AccessPath (principal ∷ [])) ∷ [];
      manifest = bytes "A\t10\t500\t20\n";
    }
    -- `var p`, `attr 7`: 2 nodes
    ∷ record {
      texts = bytes "var\tp\nattr\t7\n" ∷ [];
      runs = attribute ∷ [];
      manifest = bytes "A\t10\t500\t20\nN\t1\tp\t0\t0\nN\t2\tf\t7\t0\n";
    }
    -- Same one twice: same bytes
    ∷ record {
      texts = bytes "var\tp\nattr\t7\n" ∷ bytes "var\tp\nattr\t7\n" ∷ [];
      runs = attribute ∷ attribute ∷ [];
      manifest = bytes "A\t10\t500\t20\nN\t1\tp\t0\t0\nN\t2\tf\t7\t0\n";
    }
    -- `none`: empty
    ∷ record { texts = bytes "none\n" ∷ []; runs = one 1 [] Empty ∷ []; manifest = bytes "A\t10\t500\t20\n" }
    -- `rec 3` over `none`, `attr 5`: literal unchanged
    ∷ record {
      texts = bytes "none\nrec\t3\nattr\t5\n" ∷ [];
      runs = one 3 [] (RecordLiteral (field 3 Empty no_field)) ∷ [];
      manifest = bytes "A\t10\t500\t20\n";
    }
    -- `none`, `set`, `attr 5`: 7
    ∷ record { texts = bytes "none\nset\nattr\t5\n" ∷ []; runs = refused 7 2 ∷ []; manifest = [] }
    -- `union` on one result: 6
    ∷ record { texts = bytes "var\tp\nunion\n" ∷ []; runs = refused 6 1 ∷ []; manifest = [] }
    -- `var p`, `drop`, `attr 7`: empty trie
    ∷ record { texts = bytes "var\tp\ndrop\nattr\t7\n" ∷ []; runs = one 3 [] Empty ∷ []; manifest = bytes "A\t10\t500\t20\n" }
    -- `var p`, `var r`, `in`: p holds ancestors root r, marked; no primary r
    ∷ record {
      texts = bytes "var\tp\nvar\tr\nin\n" ∷ [];
      runs = one 3 (read 1 principal false ∷ read 2 resource true ∷ []) Empty ∷ [];
      manifest = bytes "A\t10\t500\t20\nN\t1\tp\t0\t0\nN\t2\tr\t0\t1\n";
    }
    -- Case *L, whole: `principal.7` in one contribution, `principal in resource.3` in another
    ∷ record {
      texts = bytes "var\tp\nattr\t7\n" ∷ bytes "var\tp\nvar\tr\nattr\t3\nin\n" ∷ [];
      runs =
          attribute
          ∷ one 4
          (read 1 principal false
          ∷ read 2 resource false
          ∷ read 3 3 true
          ∷ read 1 resource false
          ∷ read 2 3 false
          ∷ [])
          Empty
          ∷ [];
      manifest =
          bytes "A\t10\t500\t20\nN\t1\tp\t0\t0\nN\t2\tf\t7\t0\nN\t2\tr\t0\t0\nN\t3\tf\t3\t1\nN\t1\tr\t0\t0\nN\t2\tf\t3\t0\n";
    }
    ∷ []

-- Every case comes out as the table says.
pub starred : map (λ case. outcome case.texts) cases ≡ cases
unfolding parted number_from decimal_up_to decimal_in same_list union union_onto next ordered count listing line_of place_in build ascending
    paths_in nodes_of field_of get_or_has_attr deeper chain to_root_access_trie_with_leaf union_all step_from wrapped is_too_deep apply fold_lines
starred = refl
