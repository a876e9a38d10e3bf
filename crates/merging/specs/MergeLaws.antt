-- Laws of the merge over words: of the set that the pass is inside, of each turn, and of the pass under way. No contract cites this file.
use Rattle.std.specs.Prelude.{ℕ, ◌+◌, ◌≤◌, ◌<◌, ◌≡◌, refl, true, false, ◌&&◌, List, [], ◌∷◌, ◌++◌, map, eqb, length, drop, get_or, set}
use Rattle.std.proofs.Common.{le_refl, add-one, arith, sym, ap, ◌∙◌, lt-ltb, le-ltb, eq-eqb, ne_eqb, eqb-true, length-append, drop_of_length-le, drop-cons}
use Rattle.std.proofs.lemmas.Bool.{not-true, not-false}
use Rattle.std.proofs.Math.Bool.{not}
use Rattle.std.specs.Cmp.Lexicographic.{pointwise}
use Rattle.std.proofs.lemmas.List.{map-append, length-map}
use Rattle.std.specs.Prelude.{Option as Maybe, Some, None}
use Rattle.std.proofs.Math.Option.{Option, none, some}
use Rattle.rules.specs.Facts.{by_test, by_option, both_true}
use Rattle.rules.specs.Tries.{Next, first, second, same, next, same_list}
use Rattle.rules.proofs.TrieLaws.{Says, next_says, says_next, deeper, smaller}
use Rattle.rules.specs.ValueRows.{placed_row, inside_at, opened, inside_after, alone_row, agree_rows, both_rows, merge_rows}
use Rattle.rules.proofs.ValueRowLaws.{turn_left, turn_right, turn_both, alone_taken, alone_none, Under, written_on, under_end, under_begun}
use Rattle.words.specs.Runs.{Wrote}
use Rattle.words.specs.SeqLaws.{take-sets}
use Rattle.words.specs.RunLaws.{wrote_ended, wrote_length}
use Rattle.values.specs.ValueWords.{depth_from, key_from, kind_from, number_from, value_row_in, value_rows_of, value_word}
use Rattle.values.specs.ValueWordLaws.{word_again}
use Rattle.merging.specs.Merges.{inside_in, order_of, Chosen, alone_turn, rest_of, RowsTaken, MergeTurned, MergedInto, merged_entity_rows}
use Rattle.merging.specs.declared.Turn.{Turn}
use Rattle.std.specs.Option.{is_some}
use Rattle.std.specs.Ordering.{MatchOrdering, ordering_then}
use Rattle.std.specs.declared.cmp.Ordering.{Ordering}
use Rattle.std.specs.declared.cmp.Ordering.TheVariants.{Less, Equal, Greater}

-- whether lists are equal, word by word
words_same : (xs ys : List ℕ) → same_list xs ys ≡ pointwise eqb xs ys
unfolding same_list
words_same [] [] = refl
words_same [] (y ∷ ys) = refl
words_same (x ∷ xs) [] = refl
words_same (x ∷ xs) (y ∷ ys) = ap (λ more. eqb x y && more) (words_same xs ys)

-- ---- the set that the pass is inside

-- a row no deeper than the set ends it, and a deeper one stays inside
pub inside_ended : (depth word : ℕ) {inside : Maybe ℕ} → inside ≡ Some depth → depth_from word ≤ depth → none ≡ inside_at (inside_in inside) (value_row_in word)
inside_ended depth word e h = rw (e, le-ltb depth (depth_from word) h)

pub inside_kept : (depth word : ℕ) {inside : Maybe ℕ} → inside ≡ Some depth → depth < depth_from word → inside_in inside ≡ inside_at (inside_in inside) (value_row_in word)
inside_kept depth word e h = rw (e, lt-ltb depth (depth_from word) h)

-- inside a set none is opened, and outside one a set's row opens it
pub opened_inside : (here : Maybe ℕ) (word : ℕ) {now : Option ℕ} → inside_in here ≡ now → is_some here ≡ true → inside_in here ≡ opened now (value_row_in word)
opened_inside None word e h = let z : ◌≡◌ {A = ℕ} 0 1 = cc in absurd (omega arith)
opened_inside (Some depth) word e h = rw (← e)

pub opened_set :
    (here : Maybe ℕ) (word : ℕ) {now : Option ℕ}
    → inside_in here ≡ now → is_some here ≡ false → kind_from word ≡ 3 → some (depth_from word) ≡ opened now (value_row_in word)
opened_set None word e h k = rw (← e, eq-eqb (kind_from word) 3 k)
opened_set (Some depth) word e h k = let z : ◌≡◌ {A = ℕ} 0 1 = cc in absurd (omega arith)

pub opened_none :
    (here : Maybe ℕ) (word : ℕ) {now : Option ℕ}
    → inside_in here ≡ now → is_some here ≡ false → (kind_from word ≡ 3 → ⊥) → none ≡ opened now (value_row_in word)
opened_none None word e h k = rw (← e, ne_eqb (kind_from word) 3 k)
opened_none (Some depth) word e h k = let z : ◌≡◌ {A = ℕ} 0 1 = cc in absurd (omega arith)

-- ---- two rows at one depth with one key

-- they agree where their words are one
same_agree : (v w : ℕ) → v ≡ w → agree_rows (value_row_in v) (value_row_in w) ≡ true
same_agree v w e = rw (eq-eqb (kind_from v) (kind_from w) (ap kind_from e), eq-eqb (number_from v) (number_from w) (ap number_from e))

-- and only there, since a word has no more than its four parts
apart_agree :
    (v w : ℕ) → depth_from v ≡ depth_from w → key_from v ≡ key_from w → (v ≡ w → ⊥) → agree_rows (value_row_in v) (value_row_in w) ≡ false
apart_agree v w depths keys other =
    by_test (agree_rows (value_row_in v) (value_row_in w))
    (λ e.
    let (kinds, numbers) = both_true (eqb (kind_from v) (kind_from w)) _ e in
    let words : value_word (value_row_in v) ≡ value_word (value_row_in w) =
    rw (eqb-true (kind_from v) (kind_from w) kinds, eqb-true (number_from v) (number_from w) numbers, depths, keys) in
    absurd (other (sym (word_again v) ∙ words ∙ word_again w)))
    (λ e. e)

-- ---- the next row

-- what is left of a run that is not at its end
rest_rows : (run : List ℕ) (i : ℕ) → i < length run → value_rows_of (drop i run) ≡ value_row_in (get_or run i 0) ∷ value_rows_of (drop (i + 1) run)
rest_rows run i h = rw (add-one, drop-cons run i 0 h)

-- the order that the order of two rows says
pub order_said :
    (v w : ℕ) (n : Next) → Says (placed_row (value_row_in v)) (placed_row (value_row_in w)) n → order_of n ≡ order_of (next (placed_row (value_row_in v)) (placed_row (value_row_in w)))
order_said v w n says = sym (ap order_of (says_next (placed_row (value_row_in v)) (placed_row (value_row_in w)) n says))

-- by their depths, the deeper first, and then by their keys
pub rows_ordered :
    (v w : ℕ) (depths keys : Ordering)
    → MatchOrdering depths (depth_from w < depth_from v) (depth_from w ≡ depth_from v) (depth_from v < depth_from w)
    → MatchOrdering keys (key_from v < key_from w) (key_from v ≡ key_from w) (key_from w < key_from v)
    → ordering_then depths keys ≡ order_of (next (placed_row (value_row_in v)) (placed_row (value_row_in w)))
rows_ordered v w Less keys h k = order_said v w first (deeper h)
rows_ordered v w Greater keys h k = order_said v w second (deeper h)
rows_ordered v w Equal Less h k = order_said v w first (smaller (sym h) k)
rows_ordered v w Equal Equal h k = order_said v w same (record { depths = sym h; steps = k })
rows_ordered v w Equal Greater h k = order_said v w second (smaller h k)

module _ (left right : List ℕ) (i j : ℕ) where
  -- where one run has ended the other has the next row
  pub chosen_left : i < length left → length right ≤ j → Chosen left right i j Less
  chosen_left h past = (h, rw (drop_of_length-le right past) tt)

  pub chosen_right : length left ≤ i → j < length right → Chosen left right i j Greater
  chosen_right past h = (h, rw (drop_of_length-le left past) tt)

  -- of two rows the one that comes first
  pub chosen_row :
      i < length left
      → j < length right
      → Chosen left right i j (order_of (next (placed_row (value_row_in (get_or left i 0))) (placed_row (value_row_in (get_or right j 0)))))
  chosen_row h k = go (next (placed_row (value_row_in (get_or left i 0))) (placed_row (value_row_in (get_or right j 0)))) (next_says _ _)
    where
      go : (n : Next) → Says (placed_row (value_row_in (get_or left i 0))) (placed_row (value_row_in (get_or right j 0))) n → Chosen left right i j (order_of n)
      go first says = (h, rw (rest_rows right j k) says)
      go second says = (k, rw (rest_rows left i h) says)
      go same says = (h, k, says.depths, says.steps)

-- a row alone: by the set that the pass is inside
pub alone_outside :
    (here : Maybe ℕ) (word i j : ℕ) {now : Option ℕ}
    → inside_in here ≡ now → is_some here ≡ false
    → ◌≡◌ {A = Maybe Turn} (Some (record { word = word; left = i; right = j; inside = None })) (alone_turn word i j now)
alone_outside None word i j e h = rw (← e)
alone_outside (Some depth) word i j e h = let z : ◌≡◌ {A = ℕ} 0 1 = cc in absurd (omega arith)

pub alone_inside : (here : Maybe ℕ) (word i j : ℕ) {now : Option ℕ} → inside_in here ≡ now → is_some here ≡ true → None ≡ alone_turn word i j now
alone_inside None word i j e h = let z : ◌≡◌ {A = ℕ} 0 1 = cc in absurd (omega arith)
alone_inside (Some depth) word i j e h = rw (← e)

-- ---- a turn

module _ (left right : List ℕ) (i j : ℕ) (inside : Maybe ℕ) (in_left : i ≤ length left) (in_right : j ≤ length right) where
  -- a row that one run alone has
  turned_alone :
      (word i' j' : ℕ)
      → i' ≤ length left
      → j' ≤ length right
      → i + j < i' + j'
      → rest_of left right i j inside ≡ alone_row (inside_in inside) (value_row_in word) (rest_of left right i' j' None)
      → MergeTurned left right i j inside (alone_turn word i' j' (inside_at (inside_in inside) (value_row_in word)))
  turned_alone word i' j' in-left' in-right' more turn =
      by_option (inside_at (inside_in inside) (value_row_in word))
      (λ e.
      rw e
      (record {
        rows = turn ∙ alone_taken (inside_in inside) (value_row_in word) (rest_of left right i' j' None) e;
        in_left = in-left';
        in_right = in-right';
        more = more;
      }))
      (λ s e. rw e (turn ∙ alone_none (inside_in inside) (value_row_in word) (rest_of left right i' j' None) s e))

  -- the left run, and the right run
  pub turned_left : Chosen left right i j Less → MergeTurned left right i j inside (alone_turn (get_or left i 0) (i + 1) j (inside_at (inside_in inside) (value_row_in (get_or left i 0))))
  turned_left (h, comes) =
      turned_alone (get_or left i 0) (i + 1) j (omega arith) in_right (omega arith)
      (rw (rest_rows left i h) (turn_left (inside_in inside) (value_row_in (get_or left i 0)) (value_rows_of (drop (i + 1) left)) (value_rows_of (drop j right)) comes))

  pub turned_right : Chosen left right i j Greater → MergeTurned left right i j inside (alone_turn (get_or right j 0) i (j + 1) (inside_at (inside_in inside) (value_row_in (get_or right j 0))))
  turned_right (h, comes) =
      turned_alone (get_or right j 0) i (j + 1) in_left (omega arith) (omega arith)
      (rw (rest_rows right j h) (turn_right (inside_in inside) (value_row_in (get_or right j 0)) (value_rows_of (drop i left)) (value_rows_of (drop (j + 1) right)) comes))

  -- a row that both have: they take the two in one
  both_turn :
      Chosen left right i j Equal
      → rest_of left right i j inside
      ≡ both_rows (value_row_in (get_or left i 0)) (value_row_in (get_or right j 0))
      (merge_rows (inside_after (inside_in inside) (value_row_in (get_or left i 0))) (value_rows_of (drop (i + 1) left)) (value_rows_of (drop (j + 1) right)))
  both_turn (h, k, depths, keys) =
      rw (rest_rows left i h, rest_rows right j k)
      (turn_both (inside_in inside) (value_row_in (get_or left i 0)) (value_row_in (get_or right j 0)) (value_rows_of (drop (i + 1) left)) (value_rows_of (drop (j + 1) right)) depths keys)

  -- one word on both sides
  pub turned_both :
      (inside' : Maybe ℕ)
      → Chosen left right i j Equal
      → get_or left i 0 ≡ get_or right j 0
      → inside_in inside' ≡ inside_after (inside_in inside) (value_row_in (get_or left i 0))
      → RowsTaken left right i j inside (get_or left i 0) (i + 1) (j + 1) inside'
  turned_both inside' chosen e after = record {
    rows = both_turn chosen ∙ rw (same_agree (get_or left i 0) (get_or right j 0) e, after);
    in_left = omega (arith, chosen.0);
    in_right = omega (arith, chosen.1);
    more = omega arith;
  }

  -- two words that differ
  pub turned_apart : Chosen left right i j Equal → (get_or left i 0 ≡ get_or right j 0 → ⊥) → rest_of left right i j inside ≡ none
  turned_apart chosen other =
      both_turn chosen ∙ rw (apart_agree (get_or left i 0) (get_or right j 0) chosen.2 chosen.3 other)

-- ---- the pass under way

-- words are written, i and j rows are passed, and what the pass gives for the rows that are left follows them
pub record MergePassed (left right out : List ℕ) (to : ℕ) (out' : List ℕ) (i j : ℕ) (inside : Maybe ℕ) (at : ℕ) : Type 0 where
  pub in_left : i ≤ length left
  pub in_right : j ≤ length right
  pub words : List ℕ
  pub under :
      Under (merge_rows none (value_rows_of left) (value_rows_of right)) (value_rows_of words) (inside_in inside) (value_rows_of (drop i left))
      (value_rows_of (drop j right))
  pub wrote : Wrote out to words out' at
  pub few : length words ≤ i + j

pub passing_begun : (left right out : List ℕ) (to : ℕ) → MergePassed left right out to out 0 0 None to
passing_begun left right out to = record {
  in_left = omega arith;
  in_right = omega arith;
  words = [];
  under = under_begun (value_rows_of left) (value_rows_of right);
  wrote = record { after = omega arith; text = refl };
  few = omega arith;
}

-- words read back as they were
words_again : (words : List ℕ) → map value_word (value_rows_of words) ≡ words
words_again [] = refl
words_again (w ∷ words) = rw (word_again w, words_again words)

module _ {left right out out' : List ℕ} {to i j : ℕ} {inside : Maybe ℕ} {at : ℕ} (passing : MergePassed left right out to out' i j inside at) where
  -- a turn writes its row
  pub passing_more : {word i' j' : ℕ} {inside' : Maybe ℕ} → RowsTaken left right i j inside word i' j' inside' → MergePassed left right out to (set out' at word) i' j' inside' (at + 1)
  passing_more {word} {i'} {j'} {inside'} takes = record {
    in_left = takes.in_left;
    in_right = takes.in_right;
    words = passing.words ++ (word ∷ []);
    under =
        rw (map-append value_row_in passing.words (word ∷ []))
        (passing.under
        ∙ rw takes.rows (written_on (merge_rows none (value_rows_of left) (value_rows_of right)) (value_rows_of passing.words) (inside_in inside) (value_row_in word) (rest_of left right i' j' inside')));
    wrote = wrote_ended out passing.words to word (passing.wrote.after, passing.wrote.text);
    few = omega (arith, length-append passing.words (word ∷ []), passing.few, takes.more);
  }

  -- there is room for it
  pub passing_room : i + j < length left + length right → to + (length left + length right) ≤ length out → at < length out'
  passing_room more room = omega (arith, passing.few, passing.wrote.after, wrote_length passing.wrote)

  -- the two differ
  pub passing_apart : rest_of left right i j inside ≡ none → MergedInto (merge_rows none (value_rows_of left) (value_rows_of right)) out to out' None
  passing_apart e =
      let nothing : merge_rows none (value_rows_of left) (value_rows_of right) ≡ none = passing.under ∙ rw e in
      rw nothing
      (record {
        answer = refl;
        front = rw passing.wrote.text (take-sets to out to passing.words (le_refl to));
        size = wrote_length passing.wrote;
      })

  -- all rows are passed
  pub passing_ended : length left + length right ≤ i + j → MergedInto (merge_rows none (value_rows_of left) (value_rows_of right)) out to out' (Some at)
  passing_ended past =
      let past_left : length left ≤ i = omega (arith, passing.in_left, passing.in_right) in
      let past_right : length right ≤ j = omega (arith, passing.in_left, passing.in_right) in
      let all : merge_rows none (value_rows_of left) (value_rows_of right) ≡ some (value_rows_of passing.words) =
      under_end _ _ _ (rw (drop_of_length-le left past_left, drop_of_length-le right past_right) at passing.under) in
      rw all
      (record {
        answer = ap Some (passing.wrote.after ∙ rw (length-map passing.words value_row_in));
        text = passing.wrote.text ∙ rw (words_again passing.words);
      })

-- ---- entities

module _ (left_parents left right_parents right : List ℕ) where
  -- parents that differ
  pub entities_apart :
      (out : List ℕ) (to : ℕ) → not (pointwise eqb left_parents right_parents) ≡ true → MergedInto (merged_entity_rows left_parents left right_parents right) out to out None
  entities_apart out to e = rw (words_same left_parents right_parents, not-true _ e) (record { answer = refl; front = refl; size = refl })

  -- parents that are equal: the merge of the rows is all
  pub entities_same :
      not (pointwise eqb left_parents right_parents) ≡ false → merged_entity_rows left_parents left right_parents right ≡ merge_rows none (value_rows_of left) (value_rows_of right)
  entities_same e = rw (words_same left_parents right_parents, not-false _ e)
