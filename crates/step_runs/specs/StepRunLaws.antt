-- Laws of a step line on the stack, of running a step text line by line, and of the contribution of a result. No contract cites this file.
use Rattle.std.specs.Prelude.{ℕ, suc, ◌+◌, ◌-◌, ◌≤◌, ◌<◌, ◌≡◌, refl, true, false, List, [], ◌∷◌, ◌++◌, ◌≢◌, ◌⊎◌, length, take, drop, get_or, set}
use Rattle.std.proofs.Math.Nat.{add-sub_cancel_left}
use Rattle.std.proofs.Common.{add-one, arith, sym, ◌∙◌, subst, inl, inr, lt-ltb, length-drop, length-set, drop_of_length-le, length-take-le}
use Rattle.std.proofs.Math.Option.{Option}
use Rattle.rules.specs.Numbers.{accepted, refused}
use Rattle.rules.specs.Facts.{by_option, compared}
use Rattle.rules.specs.Text.{fields_of}
use Rattle.rules.specs.Tries.{Row}
use Rattle.rules.specs.Listing.{read}
use Rattle.rules.proofs.ListingLaws.{refused_not}
use Rattle.rules.specs.Schema.{Item, from_type}
use Rattle.rules.specs.Paths.{get_or_has_attr, full_type_required, add_taken, RecordLiteral, SetLiteral}
use Rattle.rules.specs.Steps.{Result, result, from_root, default_result, restored, union_results, empty_paths, in_result, wrapped, Step, root, none_line, attr, union_line, drop_line, full, in_line, set as set_of, rec, step_from, judged, attr_step, rec_step, full_step, apply, stepped, step_line, run, ended}
use Rattle.rules.proofs.StepLaws.{Each, AllGood, GoodSchema, judged_accepted, step_good, apply_good}
use Rattle.text.specs.Answers.{line_at}
use Rattle.text.proofs.Laws.{whole_line, cut_line}
use Rattle.text.proofs.FoldLaws.{CameTo, came_start, came_end, came_cut, came_refused, came_next}
use Rattle.text.specs.declared.Line.{Line}
use Rattle.text.specs.declared.Line.TheVariants.{Whole}
use Rattle.rows.specs.Words.{word_of}
use Rattle.rows.specs.States.{holding}
use Rattle.words.specs.Runs.{Wrote}
use Rattle.schema.specs.Items.{items_of, good_items}
use Rattle.wrapped_paths.specs.Code.{codes}
use Rattle.step_lines.specs.Lines.{step_read, GoodRead}
use Rattle.result_stack.specs.Stacks.{trie_words, stacked, Held, Holding, Reached, TrieAt}
use Rattle.type_table.specs.TypeTableLaws.{good_all, good_lawful}
use Rattle.full_types.specs.FullLaws.{item_keys}
use Rattle.result_stack.specs.StackLaws.{trie_count, trie_rows, at_within, at_few, code_left, tries_left, top_trie, top_at}
use Rattle.std.specs.Prelude.{Err}
use Rattle.step_runs.specs.declared.Stop.{Stop}
use Rattle.step_runs.specs.declared.Stop.TheVariants.{Refused, Full as Filled}
use Rattle.step_runs.specs.StepRuns.{Ready, NotLarge, TookLine, LineTaken, RanBy, Finished}
use Rattle.step_lines.specs.declared.Step.{Step as StepRead}
use Rattle.step_lines.specs.declared.Step.TheVariants.{Root, None, Attr, Union, Drop, Full, In, Set, Rec}
use Rattle.result_stack.specs.declared.Stack.{Stack}

-- ---- a step that is accepted leaves at most 32 results

judged_few : (place : ℕ) (top : Result) (stack after : List Result) → judged place top stack ≡ accepted after → length after ≤ 32
judged_few place top stack after e =
    compared 32 (suc (length stack))
    (λ many. refused_not 6 place after (rw (lt-ltb 32 (suc (length stack)) many) at e))
    (λ few. subst (λ (s : List Result). length s ≤ 32) (judged_accepted place top stack after e).1 few)

pub apply_few :
    (items : List Item) (place : ℕ) (step : Step) (stack after : List Result)
    → apply items place step stack ≡ accepted after
    → length after ≤ 32
unfolding apply
apply_few items place (root r) stack after e = judged_few place (from_root r) stack after e
apply_few items place none_line stack after e = judged_few place default_result stack after e
apply_few items place (attr f) [] after e = refused_not 6 place after e
apply_few items place (attr f) (top ∷ stack) after e =
    by_option (get_or_has_attr f top.paths)
    (λ q. refused_not 7 place after (rw (q, attr_step) at e))
    (λ paths q. judged_few place (restored top.trie paths) stack after (rw (q, attr_step) at e))
apply_few items place union_line [] after e = refused_not 6 place after e
apply_few items place union_line (y ∷ []) after e = refused_not 6 place after e
apply_few items place union_line (y ∷ x ∷ stack) after e = judged_few place (union_results x y) stack after e
apply_few items place drop_line [] after e = refused_not 6 place after e
apply_few items place drop_line (top ∷ stack) after e = judged_few place (empty_paths top.trie) stack after e
apply_few items place (full t) [] after e =
    by_option (from_type t items)
    (λ q. refused_not 1 place after (rw (q, full_step) at e))
    (λ lines q. refused_not 6 place after (rw (q, full_step) at e))
apply_few items place (full t) (top ∷ stack) after e =
    by_option (from_type t items)
    (λ q. refused_not 1 place after (rw (q, full_step) at e))
    (λ lines q.
    by_option (full_type_required items top.paths t)
    (λ p. refused_not 8 place after (rw (q, full_step, p, full_step) at e))
    (λ taken p. judged_few place (empty_paths (add_taken items top.trie taken)) stack after (rw (q, full_step, p, full_step) at e)))
apply_few items place in_line [] after e = refused_not 6 place after e
apply_few items place in_line (y ∷ []) after e = refused_not 6 place after e
apply_few items place in_line (y ∷ x ∷ stack) after e = judged_few place (in_result x y) stack after e
apply_few items place set_of [] after e = refused_not 6 place after e
apply_few items place set_of (top ∷ stack) after e =
    judged_few place (result top.trie (SetLiteral top.paths)) stack after e
apply_few items place (rec names) stack after e =
    by_option (wrapped names stack)
    (λ q. refused_not 6 place after (rw (q, rec_step) at e))
    (λ w q. judged_few place (result w.trie (RecordLiteral w.fields)) w.left after (rw (q, rec_step) at e))

-- ---- what a line is read as, and a schema's words, are good

pub read_good : (step : StepRead) (names : List ℕ) (fields : List (List ℕ)) → step_read step names ≡ step_from fields → GoodRead step names
read_good (Root r) names fields e = step_good fields (root r) (sym e)
read_good None names fields e = tt
read_good (Attr f) names fields e = step_good fields (attr f) (sym e)
read_good Union names fields e = tt
read_good Drop names fields e = tt
read_good (Full t) names fields e = tt
read_good In names fields e = tt
read_good Set names fields e = tt
read_good (Rec count) names fields e = step_good fields (rec (drop (32 - count) names)) (sym e)

pub schema_good : (words : List ℕ) → good_items words ≡ true → GoodSchema (items_of words)
schema_good words e = (good_lawful words e, item_keys words (good_all words e))

-- a step that is accepted leaves results that a step may take
stepped_held :
    (words : List ℕ) (place : ℕ) (fields : List (List ℕ)) (stack after : List Result)
    → good_items words ≡ true
    → AllGood stack
    → stepped (items_of words) place (step_from fields) stack ≡ accepted after
    → (length after ≤ 32) × AllGood after
stepped_held words place fields stack after good all e =
    by_option (step_from fields)
    (λ q. refused_not 1 place after (rw (q, stepped) at e))
    (λ step q.
    let applied : apply (items_of words) place step stack ≡ accepted after = rw (q, stepped) at e in (
      apply_few (items_of words) place step stack after applied,
      apply_good (items_of words) (schema_good words good) place step (step_good fields step q) stack after all applied,
    ))

-- ---- a step line on the stack

-- before the first line there is no result
pub held_none :
    (code tries : List ℕ) (stack : Stack)
    → (stack.code ≡ length code) × ((stack.tries ≡ length tries) × (stack.results ≡ 0))
    → Held code tries stack []
unfolding Each codes stacked
held_none code tries stack (at_code, (at-tries, no_result)) = record {
  layout = record {
    in_code = omega arith;
    in_tries = omega arith;
    code_there = drop_of_length-le code {i = stack.code} (omega arith);
    tries_there = drop_of_length-le tries {i = stack.tries} (omega arith);
    as_many = no_result;
  };
  few = omega arith;
  good = tt;
}

-- a step may take the results where there is room
pub ready_holds :
    {code tries names paths trie : List ℕ} {stack : Stack}
    → Ready code tries names paths trie stack
    → 256 ≤ stack.code
    → 1025 ≤ stack.tries
    → Holding code tries stack
ready_holds ready code_room tries_room = record {
  results = ready.results;
  held = ready.held;
  code_room = code_room;
  tries_room = tries_room;
  few_words = ready.few_words;
}

-- there always is in the large runs
pub held_full :
    {code tries : List ℕ} {stack : Stack} {results : List Result}
    → Held code tries stack results
    → (stack.code < 256) ⊎ (stack.tries < 1025)
    → NotLarge code tries
held_full held (inl little) code-length tries-length = omega (arith, code_left held, held.few)
held_full held (inr little) code-length tries-length = omega (arith, tries_left held, held.few)

-- a step that is reached is the line's, and leaves results that a step may take
pub line_took :
    (words line : List ℕ) {code tries code' tries' : List ℕ} {stack next : Stack} {step : Option Step} {results : List Result}
    → good_items words ≡ true
    → step ≡ step_from (fields_of line)
    → Held code tries stack results
    → Reached (λ place. stepped (items_of words) place step results) code' tries' next
    → TookLine (items_of words) line results code' tries' next
line_took words line {results = results} good given held reached =
    let accepts : (place : ℕ) → step_line (items_of words) place line results ≡ accepted reached.after = λ place. rw given at (reached.reached place) in
    let (few, all_good) = stepped_held words 0 (fields_of line) results reached.after good held.good (accepts 0) in
    record { after = reached.after; steps = accepts; held = record { layout = reached.layout; few = few; good = all_good } }

-- ---- running from line to line

-- the lines that were passed came to the results that the stack holds
pub record Running (words text code tries : List ℕ) (stack : Stack) (at line : ℕ) : Type 0 where
  pub results : List Result
  pub held : Held code tries stack results
  pub came : CameTo (step_line (items_of words)) [] text at line results

pub running_none :
    (words text code tries : List ℕ) (stack : Stack)
    → (stack.code ≡ length code) × ((stack.tries ≡ length tries) × (stack.results ≡ 0))
    → Running words text code tries stack 0 0
running_none words text code tries stack new =
    record { results = []; held = held_none code tries stack new; came = came_start (step_line (items_of words)) [] text }

module _ {words text code tries : List ℕ} {stack : Stack} {at line : ℕ} (running : Running words text code tries stack at line) where
  -- no line is left
  pub running_all : length text ≤ at → Finished (items_of words) text code tries stack line
  running_all h = record { results = running.results; ran = came_end running.came h; held = running.held }

  -- the next line has no LF
  pub running_cut :
      {r : Line}
      → r ≡ line_at text at
      → ((end : ℕ) → r ≡ Whole end → ⊥)
      → at < length text
      → run (items_of words) text ≡ refused 1 line
  running_cut {r} ensured unended more = came_cut running.came more (cut_line text at r ensured unended)

  module _ {end : ℕ} {r : Line} (ensured : r ≡ line_at text at) (e : r ≡ Whole end) where
    -- the next line is refused
    pub running_stopped :
        {number place : ℕ}
        → ((results : List Result)
        → Held code tries stack results
        → step_line (items_of words) line (take (end - at) (drop at text)) results ≡ refused number place)
        → run (items_of words) text ≡ refused number place
    running_stopped steps = came_refused running.came (whole_line text at end r ensured e) (steps running.results running.held)

    -- and the run ends there
    pub running_ends :
        (code' tries' : List ℕ) (stop : Stop)
        → LineTaken (items_of words) (take (end - at) (drop at text)) line code tries stack code' tries' (Err stop)
        → length code' ≡ length code
        → length tries' ≡ length tries
        → RanBy (items_of words) text code' tries' (Err stop)
    running_ends code' tries' (Refused refusal) taken same_code same_tries = running_stopped taken
    running_ends code' tries' Filled taken same_code same_tries = λ code-length tries-length. taken (sym same_code ∙ code-length) (sym same_tries ∙ tries-length)

    -- the next line is taken
    pub running_next :
        {code' tries' : List ℕ} {next : Stack}
        → ((results : List Result) → Held code tries stack results → TookLine (items_of words) (take (end - at) (drop at text)) results code' tries' next)
        → Running words text code' tries' next (end + 1) (line + 1)
    running_next steps =
        let took = steps running.results running.held in
        record { results = took.after; held = took.held; came = came_next running.came (whole_line text at end r ensured e) (took.steps line) }

-- ---- the one result that a stack holds

module _ {code tries : List ℕ} {stack : Stack} {results : List Result} (held : Held code tries stack results) (one : stack.results ≡ 1) where
  pub only_result : (top : Result) × (results ≡ top ∷ [])
  only_result = go results held.layout.as_many
    where
      go : (results : List Result) → stack.results ≡ length results → (top : Result) × (results ≡ top ∷ [])
      go [] e = absurd (omega arith)
      go (top ∷ []) e = (top, refl)
      go (top ∷ next ∷ results) e = absurd (omega arith)

  only_held : Held code tries stack (only_result.0 ∷ [])
  only_held = rw only_result.1 at held

  -- its trie stands at the top
  pub only_there : drop stack.tries tries ≡ trie_words only_result.0.trie ++ []
  unfolding stacked
  only_there = top_trie only_held

  pub only_trie : TrieAt tries stack.tries
  only_trie = top_at only_held

-- not one result is left
pub ended_many :
    {code tries : List ℕ} {stack : Stack} {results : List Result}
    → Held code tries stack results
    → stack.results ≢ 1
    → (request lines : ℕ)
    → ended request lines results ≡ refused 6 lines
ended_many {stack = stack} {results} held many request lines = go results held.layout.as_many
  where
    go : (results : List Result) → stack.results ≡ length results → ended request lines results ≡ refused 6 lines
    go [] e = refl
    go (top ∷ []) e = absurd (many e)
    go (top ∷ next ∷ results) e = refl

-- ---- the contribution of a result

module _ (words : List ℕ) (at : ℕ) where
  -- a trie that stands at a place ends there, and is not too long
  pub contribution_within : TrieAt words at → (get_or words at 0 ≤ 1024) × (at + 1 + get_or words at 0 ≤ length words)
  contribution_within t = (at_few t, at_within t)

  -- its words fit behind the entry
  pub trie_fits :
      (out : List ℕ) (count entry : ℕ)
      → TrieAt words at
      → 1026 ≤ length out
      → 2 + length (take (at + 1 + get_or words at 0 - (at + 1)) (drop (at + 1) words)) ≤ length (set (set out 0 count) 1 entry)
  trie_fits out count entry t room =
      let (few, all) = contribution_within t in
      rw (add-sub_cancel_left, length-set, length-set, length-take-le (get_or words at 0) (drop (at + 1) words) (omega (arith, length-drop (at + 1) words)))
      (omega arith)

  -- and there they are the contribution
  pub trie_written :
      (out : List ℕ) (request : ℕ) {entry end : ℕ} {out' : List ℕ}
      → entry ≡ word_of (read 0 request false)
      → Wrote (set (set out 0 (get_or words at 0 + 1)) 1 entry) 2 (take (at + 1 + get_or words at 0 - (at + 1)) (drop (at + 1) words)) out' end
      → (trie : List Row) (rest : List ℕ)
      → drop at words ≡ trie_words trie ++ rest
      → out' ≡ holding out (read 0 request false ∷ trie)
  trie_written out request e wrote trie rest there =
      wrote.text ∙ rw (e, add-sub_cancel_left, trie_rows words rest at trie there, trie_count words rest at trie there, add-one (length trie))
