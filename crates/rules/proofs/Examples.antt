-- Worked examples of document 01, which the checker computes.
use Rattle.std.specs.Prelude.{ℕ, zero, suc, ◌+◌, ◌≡◌, refl, true, false, cond, List, [], ◌∷◌, ◌++◌, map, ltb, eqb}
use Rattle.std.proofs.Math.Option.{none, some}
use Rattle.rules.specs.Numbers.{Answer, accepted, refused, answer_by, first_of}
use Rattle.rules.specs.Text.{bytes, parted, number_from, decimal_up_to, decimal_of, decimal_in}
use Rattle.rules.specs.Lines.{folded, fold_lines, fold_text}
use Rattle.rules.specs.Walks.{Rule, walked, walk}
use Rattle.rules.proofs.WalkLaws.{all_in, orderly}
use Rattle.rules.specs.Tries.{Row, Form, at, request_of, step_of, union, union_onto, next, ordered, count, lawful, manifest, contribution}
use Rattle.rules.specs.Listing.{listing, line_of, place_in, row_of, rows_from, read_listing, read}

-- Case *L: `principal.7` in one contribution, `principal in resource.3` in another, both of request type (10, 500, 20).
abbrev entry : Row
entry = read 0 (request_of 10 500 20) false

abbrev attribute : List Row
attribute = entry ∷ read 1 (step_of 1 0) false ∷ read 2 (step_of 0 7) false ∷ []

abbrev membership : List Row
membership =
    entry
    ∷ read 1 (step_of 1 0) false
    ∷ read 2 (step_of 3 0) false
    ∷ read 3 (step_of 0 3) true
    ∷ read 1 (step_of 3 0) false
    ∷ read 2 (step_of 0 3) false
    ∷ []

abbrev case_l : List ℕ
case_l = bytes "A\t10\t500\t20\nN\t1\tp\t0\t0\nN\t2\tf\t7\t0\nN\t2\tr\t0\t0\nN\t3\tf\t3\t1\nN\t1\tr\t0\t0\nN\t2\tf\t3\t0\n"

case_written : listing (union attribute membership) ≡ case_l
unfolding listing line_of union union_onto next decimal_in
case_written = refl

case_other_order : listing (union membership attribute) ≡ case_l
unfolding listing line_of union union_onto next decimal_in
case_other_order = refl

case_read : read_listing manifest case_l ≡ accepted (union attribute membership)
unfolding parted number_from decimal_up_to place_in row_of rows_from union union_onto next
case_read = refl

-- The refusals of reading, at a limit of two entries and three nodes: the number, and the line from 0.
abbrev small : Form
small = record { single = false; entries = 2; nodes = 3 }

-- 1: a line or field is not of the stated form
abbrev malformed : List (List ℕ)
malformed =
    bytes "A\t1\t2\n"
    ∷ bytes "A\t1\t2\t3\t4\n"
    ∷ bytes "A\t1\t2\t65536\n"
    ∷ bytes "A\t1\t02\t3\n"
    ∷ bytes "A\t1\t2\t+3\n"
    ∷ bytes "A\t1\t2\t3"
    ∷ bytes "\n"
    ∷ bytes "A\t1\t2\t3\r\n"
    ∷ bytes "A\t1\t2\t3\nN\t0\tp\t0\t0\n"
    ∷ bytes "A\t1\t2\t3\nN\t1\tf\t7\t0\n"
    ∷ bytes "A\t1\t2\t3\nN\t1\tp\t7\t0\n"
    ∷ bytes "A\t1\t2\t3\nN\t1\tp\t0\t2\n"
    ∷ []

refused_1 :
    map (read_listing small) malformed
    ≡ refused 1 0
    ∷ refused 1 0
    ∷ refused 1 0
    ∷ refused 1 0
    ∷ refused 1 0
    ∷ refused 1 0
    ∷ refused 1 0
    ∷ refused 1 0
    ∷ refused 1 1
    ∷ refused 1 1
    ∷ refused 1 1
    ∷ refused 1 1
    ∷ []
unfolding parted number_from decimal_up_to place_in row_of rows_from
refused_1 = refl

-- 2: listing order, or depth more than one above the line before
abbrev disordered : List (List ℕ)
disordered =
    bytes "N\t1\tp\t0\t0\n"
    ∷ bytes "A\t1\t2\t3\nN\t2\tf\t7\t0\n"
    ∷ bytes "A\t1\t2\t3\nN\t1\tr\t0\t0\nN\t1\tp\t0\t0\n"
    ∷ bytes "A\t1\t2\t3\nN\t1\te\t9\t0\nN\t2\tf\t1\t0\nN\t1\te\t9\t0\n"
    ∷ bytes "A\t1\t2\t3\nA\t1\t2\t3\n"
    ∷ []

refused_2 :
    map (read_listing small) disordered
    ≡ refused 2 0 ∷ refused 2 1 ∷ refused 2 2 ∷ refused 2 3 ∷ refused 2 1 ∷ []
unfolding parted number_from decimal_up_to place_in row_of rows_from
refused_2 = refl

-- 3: a position would exceed 24 steps. A chain of n fields below the principal, its last node at depth n + 1
chain_from : ℕ → ℕ → List Row
chain_from depth zero = []
chain_from depth (suc n) = read depth (step_of 0 7) false ∷ chain_from (depth + 1) n

chain : ℕ → List Row
chain n = entry ∷ read 1 (step_of 1 0) false ∷ chain_from 2 n

deepest : read_listing manifest (listing (chain 23)) ≡ accepted (chain 23)
unfolding parted number_from decimal_up_to decimal_in place_in row_of rows_from listing line_of chain chain_from
deepest = refl

refused_3 : read_listing manifest (listing (chain 24)) ≡ refused 3 25
unfolding parted number_from decimal_up_to decimal_in place_in row_of rows_from listing line_of chain chain_from
refused_3 = refl

-- 5: one request type too many. 4: one node too many
refused_5 : read_listing small (bytes "A\t1\t1\t1\nA\t1\t1\t2\nA\t1\t1\t3\n") ≡ refused 5 2
unfolding parted number_from decimal_up_to row_of rows_from
refused_5 = refl

refused_4 :
    read_listing small (bytes "A\t1\t1\t1\nN\t1\tp\t0\t0\nN\t1\ta\t0\t0\nN\t1\tr\t0\t0\nN\t1\tc\t0\t0\n")
    ≡ refused 4 4
unfolding parted number_from decimal_up_to place_in row_of rows_from
refused_4 = refl

-- A contribution has exactly one entry; zero entries is the empty text of a manifest.
one_entry :
    map (read_listing contribution) ([] ∷ bytes "A\t1\t2\t3\n" ∷ bytes "A\t1\t2\t3\nA\t1\t2\t3\n" ∷ [])
    ≡ refused 1 0 ∷ accepted (read 0 (request_of 1 2 3) false ∷ []) ∷ refused 1 1 ∷ []
unfolding parted number_from decimal_up_to row_of rows_from
one_entry = refl

no_entry : read_listing manifest [] ≡ accepted []
unfolding parted rows_from
no_entry = refl

-- Rows are lawful exactly where the listing's order holds.
lawful_rows :
    map (lawful manifest) ([] ∷ union attribute membership ∷ (entry ∷ entry ∷ []) ∷ chain 23 ∷ chain 24 ∷ [])
    ≡ true ∷ true ∷ false ∷ true ∷ false ∷ []
unfolding ordered count union union_onto next chain chain_from
lawful_rows = refl

-- Lines that each hold one decimal, added up: the sum and how many there are, 7 with the line where it passes 100, 1 for any other line.
abbrev added : ℕ → List ℕ → ℕ → Answer ℕ
added place line sum =
    elim (decimal_of line) [ none ↦ refused 1 place | some n ↦ answer_by place (sum + n) (first_of ((ltb 100 (sum + n), 7) ∷ [])) ]

sums :
    map (λ text. fold_text added text 0) ([] ∷ bytes "40\n60\n" ∷ bytes "40\n60\n1\nx\n" ∷ bytes "40\n\n60\n" ∷ bytes "40\n60" ∷ [])
    ≡ accepted (folded 0 0) ∷ accepted (folded 2 100) ∷ refused 7 2 ∷ refused 1 1 ∷ refused 1 1 ∷ []
unfolding fold_lines parted number_from decimal_up_to
sums = refl

-- A walk that keeps steps, passes over all below the principal, takes note of the places that it looks at, and is refused at a marked row:
-- over case *L it looks at the entry, the principal, the resource and its field 3.
abbrev noting : Rule ℕ (List (List ℕ))
noting place row rows w =
    cond row.mark (refused 9 place)
    (accepted (cond (eqb row.step (step_of 1 0)) none (some row.step), w.state ++ (at (all_in w.kept) row ∷ [])))

noted :
    walk noting 0 (union attribute membership) (walked [] [])
    ≡ accepted
    (walked
    (some entry.step ∷ some (step_of 3 0) ∷ some (step_of 0 3) ∷ [])
    ((entry.step ∷ [])
    ∷ (entry.step ∷ step_of 1 0 ∷ [])
    ∷ (entry.step ∷ step_of 3 0 ∷ [])
    ∷ (entry.step ∷ step_of 3 0 ∷ step_of 0 3 ∷ [])
    ∷ []))
unfolding walk union union_onto next
noted = refl

-- a marked row below the resource is looked at, and refused with its place
noted_mark : walk noting 0 (entry ∷ read 1 (step_of 3 0) false ∷ read 2 (step_of 0 3) true ∷ []) (walked [] []) ≡ refused 9 2
unfolding walk
noted_mark = refl

-- the walk that judges the listing's order
orderly_rows :
    map (λ rows. walk orderly 0 rows (walked [] tt)) ((entry ∷ entry ∷ []) ∷ chain 24 ∷ attribute ∷ [])
    ≡ refused 1 1 ∷ refused 1 25 ∷ accepted (walked (some entry.step ∷ some (step_of 1 0) ∷ some 7 ∷ []) tt) ∷ []
unfolding walk chain chain_from
orderly_rows = refl
