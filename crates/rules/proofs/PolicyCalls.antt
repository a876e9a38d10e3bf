-- A policy text that is accepted is parts one after the other, each an `A` line and a step text, and its contributions are what `analyse`
-- gives for each step text by itself. The statement is `policy_calls`. No contract cites this file.
use Rattle.std.specs.Prelude.{ℕ, suc, ◌+◌, ◌≡◌, refl, Bool, true, false, cond, ltb, eqb, length}
use Rattle.std.proofs.Common.{arith, sym, ◌∙◌, eqb-true}
use Rattle.std.proofs.Math.Path.{ap}
use mathlib.Core.List.{List, [], ◌∷◌, ◌++◌, append_assoc}
use Rattle.std.proofs.Math.Option.{Option, none, some}
use Rattle.std.proofs.lemmas.Bool.{eqb-false}
use Rattle.rules.specs.Numbers.{Answer, accepted, and_then, answer_by, first_of}
use Rattle.rules.specs.Text.{LF, parted, onto, lines_of, fields_of}
use Rattle.rules.proofs.TextLaws.{Free, free_empty, free_more, parted_first, parted_some, joined_by, joined_parted, parted_split}
use Rattle.rules.specs.Facts.{by_test, by_option, accepted_same, then_accepted}
use Rattle.rules.specs.Lines.{Folded, fold_lines}
use Rattle.rules.proofs.LineLaws.{fold_end, fold_next}
use Rattle.rules.specs.Tries.{Row, contribution}
use Rattle.rules.proofs.ListingLaws.{refused_not}
use Rattle.rules.specs.Schema.{Item, from_type}
use Rattle.rules.specs.Paths.{RecordLiteral, SetLiteral, nodes_of, get_or_has_attr, full_type_required, add_taken}
use Rattle.rules.specs.Steps.{
  Result,
  result,
  from_root,
  default_result,
  most_results,
  most_path_nodes,
  is_too_deep,
  restored,
  empty_paths,
  union_results,
  in_result,
  wrapped,
  Step,
  root,
  none_line,
  attr,
  union_line,
  drop_line,
  full,
  in_line,
  set,
  rec,
  judged,
  attr_step,
  rec_step,
  full_step,
  two_step,
  apply,
  step_from,
  stepped,
  step_line,
  ended,
  analyse,
}
use Rattle.rules.specs.Policies.{request_in, Begun, begin, Policy, policy, closed, policy_step, policy_line, contributions_of}
use Rattle.rules.proofs.PolicyLaws.{gather_at, in_front, finish, finish_behind}

-- ---- a step that is accepted is accepted at any place

module _ (place other : ℕ) {after : List Result} where
  answer_anywhere : (a : List Result) (o : Option ℕ) → answer_by place a o ≡ accepted after → answer_by other a o ≡ accepted after
  answer_anywhere a none e = e
  answer_anywhere a (some number) e = refused_not number place after e

  judged_anywhere : (top : Result) (stack : List Result) → judged place top stack ≡ accepted after → judged other top stack ≡ accepted after
  judged_anywhere top stack =
      answer_anywhere (top ∷ stack)
      (first_of
      ((ltb most_results (suc (length stack)), 6)
      ∷ (ltb most_path_nodes (nodes_of top.paths), 15)
      ∷ (is_too_deep top.trie, 3)
      ∷ (ltb contribution.nodes (length top.trie), 4)
      ∷ []))

  two_anywhere :
      (of : Result → Result → Result) (stack : List Result)
      → two_step of place stack ≡ accepted after
      → two_step of other stack ≡ accepted after
  two_anywhere of [] e = refused_not 6 place after e
  two_anywhere of (right ∷ []) e = refused_not 6 place after e
  two_anywhere of (right ∷ left ∷ stack) e = judged_anywhere (of left right) stack e

  apply_anywhere :
      (items : List Item) (step : Step) (stack : List Result)
      → apply items place step stack ≡ accepted after
      → apply items other step stack ≡ accepted after
  unfolding apply
  apply_anywhere items (root r) stack e = judged_anywhere (from_root r) stack e
  apply_anywhere items none_line stack e = judged_anywhere default_result stack e
  apply_anywhere items (attr f) [] e = refused_not 6 place after e
  apply_anywhere items (attr f) (top ∷ stack) e =
      by_option (get_or_has_attr f top.paths)
      (λ q. refused_not 7 place after (rw (q, attr_step) at e))
      (λ paths q. rw (q, attr_step) (judged_anywhere (restored top.trie paths) stack (rw (q, attr_step) at e)))
  apply_anywhere items union_line stack e = two_anywhere union_results stack e
  apply_anywhere items drop_line [] e = refused_not 6 place after e
  apply_anywhere items drop_line (top ∷ stack) e = judged_anywhere (empty_paths top.trie) stack e
  apply_anywhere items (full t) [] e =
      by_option (from_type t items)
      (λ q. refused_not 1 place after (rw (q, full_step) at e))
      (λ lines q. refused_not 6 place after (rw (q, full_step) at e))
  apply_anywhere items (full t) (top ∷ stack) e =
      by_option (from_type t items)
      (λ q. refused_not 1 place after (rw (q, full_step) at e))
      (λ lines q.
      by_option (full_type_required items top.paths t)
      (λ p. refused_not 8 place after (rw (q, full_step, p, full_step) at e))
      (λ taken p.
      rw (q, full_step, p, full_step)
      (judged_anywhere (empty_paths (add_taken items top.trie taken)) stack (rw (q, full_step, p, full_step) at e))))
  apply_anywhere items in_line stack e = two_anywhere in_result stack e
  apply_anywhere items set [] e = refused_not 6 place after e
  apply_anywhere items set (top ∷ stack) e = judged_anywhere (result top.trie (SetLiteral top.paths)) stack e
  apply_anywhere items (rec names) stack e =
      by_option (wrapped names stack)
      (λ q. refused_not 6 place after (rw (q, rec_step) at e))
      (λ w q. rw (q, rec_step) (judged_anywhere (result w.trie (RecordLiteral w.fields)) w.left (rw (q, rec_step) at e)))

  line_anywhere :
      (items : List Item) (line : List ℕ) (stack : List Result)
      → step_line items place line stack ≡ accepted after
      → step_line items other line stack ≡ accepted after
  line_anywhere items line stack e =
      by_option (step_from (fields_of line))
      (λ q. refused_not 1 place after (rw (q, stepped) at e))
      (λ step q. rw (q, stepped) (apply_anywhere items step stack (rw (q, stepped) at e)))

ended_anywhere :
    (request place other : ℕ) (stack : List Result) {c : List Row}
    → ended request place stack ≡ accepted c
    → ended request other stack ≡ accepted c
ended_anywhere request place other [] {c} e = refused_not 6 place c e
ended_anywhere request place other (top ∷ []) e = e
ended_anywhere request place other (top ∷ next ∷ stack) {c} e = refused_not 6 place c e

-- ---- the first line of a text has no LF

first_free : (b : ℕ) (xs : List ℕ) {part : List ℕ} {parts : List (List ℕ)} → parted b xs ≡ part ∷ parts → Free b part
unfolding parted
first_free b [] {part} e = let none_there : [] ≡ part = cc in rw (sym none_there) free_empty
first_free b (x ∷ xs) {part} {parts} e = go (eqb x b) refl (parted_some b xs) (λ p ps. first_free b xs {part = p} {parts = ps}) e
  where
    go :
        (same : Bool)
        → eqb x b ≡ same
        → (p : List ℕ) × (ps : List (List ℕ)) × (parted b xs ≡ p ∷ ps)
        → ((p : List ℕ) (ps : List (List ℕ)) → parted b xs ≡ p ∷ ps → Free b p)
        → cond same ([] ∷ parted b xs) (onto x (parted b xs)) ≡ part ∷ parts
        → Free b part
    go true q found rest e = let none_there : [] ≡ part = cc in rw (sym none_there) free_empty
    go false q (p, ps, found) rest e =
        let front : (x ∷ p) ∷ ps ≡ part ∷ parts = rw found at e in
        let same : x ∷ p ≡ part = cc in
        rw (sym same) (free_more (eqb-false x b q) (rest p ps found))

-- ---- a text in parts

-- A policy text as `A` lines, each with the step text behind it, and what each analysis gives.
pub data InParts (items : List Item) : List ℕ → List (List Row) → Type 0 where
  no_part : InParts items [] []
  part : (line steps rest : List ℕ) {request : ℕ} {c : List Row} {cs : List (List Row)} →
      request_in line ≡ some request → analyse items request steps ≡ accepted c → InParts items rest cs →
      InParts items (line ++ (LF ∷ (steps ++ rest))) (c ∷ cs)

none_is_some : {x : List ℕ} {xs : List (List ℕ)} → x ∷ xs ≡ [] → ⊥
none_is_some e = let z : ◌≡◌ {A = ℕ} 0 1 = cc in omega arith

empty_text : (xs : List ℕ) → length xs ≡ 0 → [] ≡ xs
empty_text [] e = refl
empty_text (x ∷ xs) e = absurd (omega arith)

module _ (items : List Item) where
  -- one more part in front
  part_of :
      (line steps behind rest : List ℕ) (cs : List (List Row)) {request : ℕ} {c : List Row} {others : List (List Row)}
      → rest ≡ steps ++ behind
      → cs ≡ c ∷ others
      → request_in line ≡ some request
      → analyse items request steps ≡ accepted c
      → InParts items behind others
      → InParts items (line ++ (LF ∷ rest)) cs
  part_of line steps behind rest cs whole these q given parts = rw (whole, these) (part line steps behind q given parts)

  -- step lines that a contribution which has begun goes on with, to its end
  abbrev Goes : Begun → List ℕ → List Row → Type 0
  Goes b steps c =
      (place : ℕ) → and_then (fold_lines (step_line items) place (lines_of steps) b.results) (λ all. ended b.request all.lines all.state) ≡ accepted c

  -- a contribution that has begun takes the steps in front of a text, and the rest is in parts
  record Resumed (b : Begun) (text : List ℕ) (cs : List (List Row)) : Type 0 where
    steps : List ℕ
    rest : List ℕ
    c : List Row
    others : List (List Row)
    whole : text ≡ steps ++ rest
    these : cs ≡ c ∷ others
    goes : Goes b steps c
    in_parts : InParts items rest others

  abbrev Came : Option Begun → List ℕ → List (List Row) → Type 0
  Came none text cs = InParts items text cs
  Came (some b) text cs = Resumed b text cs

  -- a contribution ends where no step is left
  goes_no_further : (b : Begun) (place : ℕ) {c : List Row} → ended b.request place b.results ≡ accepted c → Goes b [] c
  goes_no_further b place e other = rw (fold_end (step_line items) other b.results) (ended_anywhere b.request place other b.results e)

  -- or goes on with a line
  goes_on : (b : Begun) (line steps : List ℕ) (place : ℕ) {results : List Result} {c : List Row} →
      Free LF line → step_line items place line b.results ≡ accepted results → Goes (begin b.request results) steps c → Goes b (line ++ (LF ∷ steps)) c
  goes_on b line steps place {results} free e goes other =
      rw (parted_first free steps, fold_next (step_line items) other b.results line steps (line_anywhere place other items line b.results e))
      (goes (other + 1))

  -- the end
  came_to_end :
      (b : Option Begun) (place : ℕ) (cs : List (List Row))
      → closed gather_at items place (policy [] b) ≡ accepted cs
      → Came b [] cs
  came_to_end none place cs e = rw (sym (accepted_same [] cs e)) no_part
  came_to_end (some b) place cs e =
      let (c, one, given) = then_accepted (ended b.request place b.results) (λ c. gather_at place c []) e in
      record {
        steps = [];
        rest = [];
        c = c;
        others = [];
        whole = refl;
        these = sym (accepted_same (c ∷ []) cs given);
        goes = goes_no_further b place one;
        in_parts = no_part;
      }

  -- a line, and what comes behind it
  finish_line :
      (line next : List ℕ) (lines : List (List ℕ)) (place : ℕ) (p : Policy (List (List Row))) (cs : List (List Row))
      → finish gather_at items place (line ∷ next ∷ lines) p ≡ accepted cs
      → (then : Policy (List (List Row)))
      × (policy_line gather_at items place line p ≡ accepted then)
      × (finish gather_at items (place + 1) (next ∷ lines) then ≡ accepted cs)
  unfolding fold_lines
  finish_line line next lines place p cs e =
      let (all, came, ends) = then_accepted (fold_lines (policy_line gather_at items) place (line ∷ next ∷ lines) p) (λ all. closed gather_at items all.lines all.state) e in
      let (then, lined, behind) = then_accepted (policy_line gather_at items place line p) (λ then. fold_lines (policy_line gather_at items) (place + 1) (next ∷ lines) then) came in
      (then, lined, ap (λ (answer : Answer (Folded (Policy (List (List Row))))). and_then answer (λ all. closed gather_at items all.lines all.state)) behind ∙ ends)

  module _
      (line next rest : List ℕ) (lines : List (List ℕ)) (place : ℕ) (free : Free LF line)
      (again : (b : Option Begun) (cs : List (List Row)) → finish gather_at items (place + 1) (next ∷ lines) (policy [] b) ≡ accepted cs → Came b rest cs)
    where
      -- a step line
      step_came :
          (b : Option Begun) (cs : List (List Row)) (then : Policy (List (List Row)))
          → policy_step gather_at items place line (policy [] b) ≡ accepted then
          → finish gather_at items (place + 1) (next ∷ lines) then ≡ accepted cs
          → Came b (line ++ (LF ∷ rest)) cs
      step_came none cs then lined behind = refused_not 1 place then lined
      step_came (some b) cs then lined behind =
          let (results, taken, given) = then_accepted (step_line items place line b.results) (λ results. accepted (policy [] (some (begin b.request results)))) lined in
          let here : policy [] (some (begin b.request results)) ≡ then = accepted_same _ then given in
          let r : Resumed (begin b.request results) rest cs = again (some (begin b.request results)) cs (rw (sym here) at behind) in
          record {
            steps = line ++ (LF ∷ r.steps);
            rest = r.rest;
            c = r.c;
            others = r.others;
            whole = ap (λ (l : List ℕ). line ++ (LF ∷ l)) r.whole ∙ sym (append_assoc line (LF ∷ r.steps) r.rest);
            these = r.these;
            goes = goes_on b line r.steps place free taken r.goes;
            in_parts = r.in_parts;
          }

      -- an `A` line, and the contribution that it begins
      begun_came :
          (request : ℕ) (more : List (List Row))
          → request_in line ≡ some request
          → finish gather_at items (place + 1) (next ∷ lines) (policy [] (some (begin request []))) ≡ accepted more
          → InParts items (line ++ (LF ∷ rest)) more
      begun_came request more q e =
          let r : Resumed (begin request []) rest more = again (some (begin request [])) more e in
          part_of line r.steps r.rest rest more r.whole r.these q (r.goes 0) r.in_parts

      -- it ends the one before it
      open_came :
          (request : ℕ) (b : Option Begun) (cs : List (List Row)) (then : Policy (List (List Row)))
          → request_in line ≡ some request
          → and_then (closed gather_at items place (policy [] b)) (λ ds. accepted (policy ds (some (begin request [])))) ≡ accepted then
          → finish gather_at items (place + 1) (next ∷ lines) then ≡ accepted cs
          → Came b (line ++ (LF ∷ rest)) cs
      open_came request b cs then q lined behind =
          let (ds, ends, given) = then_accepted (closed gather_at items place (policy [] b)) (λ ds. accepted (policy ds (some (begin request [])))) lined in
          let here : policy ds (some (begin request [])) ≡ then = accepted_same _ then given in
          let front : in_front ds (finish gather_at items (place + 1) (next ∷ lines) (policy [] (some (begin request [])))) ≡ accepted cs =
          sym (finish_behind items ds (place + 1) (next ∷ lines) (some (begin request []))) ∙ (rw (sym here) at behind) in
          let (more, fin, same) = then_accepted (finish gather_at items (place + 1) (next ∷ lines) (policy [] (some (begin request [])))) (λ more. accepted (ds ++ more)) front in
          closes b ds more (accepted_same (ds ++ more) cs same) ends (begun_came request more q fin)
        where
          closes :
              (b : Option Begun) (ds more : List (List Row))
              → ds ++ more ≡ cs
              → closed gather_at items place (policy [] b) ≡ accepted ds
              → InParts items (line ++ (LF ∷ rest)) more
              → Came b (line ++ (LF ∷ rest)) cs
          closes none ds more same ends parts =
              let all : more ≡ cs = ap (λ (l : List (List Row)). l ++ more) (accepted_same [] ds ends) ∙ same in
              rw (sym all) parts
          closes (some b) ds more same ends parts =
              let (c, one, given) = then_accepted (ended b.request place b.results) (λ c. gather_at place c []) ends in
              record {
                steps = [];
                rest = line ++ (LF ∷ rest);
                c = c;
                others = more;
                whole = refl;
                these = sym (ap (λ (l : List (List Row)). l ++ more) (accepted_same (c ∷ []) ds given) ∙ same);
                goes = goes_no_further b place one;
                in_parts = parts;
              }

      line_came :
          (b : Option Begun) (cs : List (List Row))
          → finish gather_at items place (line ∷ next ∷ lines) (policy [] b) ≡ accepted cs
          → Came b (line ++ (LF ∷ rest)) cs
      line_came b cs e =
          let (then, lined, behind) = finish_line line next lines place (policy [] b) cs e in
          by_option (request_in line)
          (λ q. step_came b cs then (rw (q, policy_line) at lined) behind)
          (λ request q. open_came request b cs then q (rw (q, policy_line) at lined) behind)

  lines_came :
      (lines : List (List ℕ)) (text : List ℕ) (place : ℕ) (b : Option Begun) (cs : List (List Row))
      → lines_of text ≡ lines
      → finish gather_at items place lines (policy [] b) ≡ accepted cs
      → Came b text cs
  unfolding fold_lines joined_by
  lines_came [] text place b cs by_lines e =
      let (first, more, some-part) = parted_some LF text in
      absurd (none_is_some (sym some-part ∙ by_lines))
  lines_came (line ∷ []) text place b cs by_lines e =
      let only : line ≡ text = ap (joined_by LF) (sym by_lines) ∙ joined_parted LF text in
      by_test (eqb (length line) 0)
      (λ empty. rw (sym (empty_text line (eqb-true (length line) 0 empty) ∙ only)) (came_to_end b place cs (rw empty at e)))
      (λ cut. refused_not 1 place cs (rw cut at e))
  lines_came (line ∷ next ∷ lines) text place b cs by_lines e =
      let (rest, whole, behind) = parted_split LF text line next lines by_lines in
      rw whole
      (line_came line next rest lines place (first_free LF text by_lines) (λ c ds f. lines_came (next ∷ lines) rest (place + 1) c ds behind f) b cs e)

  -- A policy text that is accepted is in parts, each an `A` line and the step text behind it, and each contribution is what `analyse` gives for
  -- that step text by itself.
  pub policy_calls : (text : List ℕ) (cs : List (List Row)) → contributions_of items text ≡ accepted cs → InParts items text cs
  policy_calls text cs e = lines_came (lines_of text) text 0 none cs refl e
