-- Laws of the walk that types a manifest's rows: where the loop has come to. No contract cites this file.
use Rattle.std.specs.Prelude.{ℕ, zero, suc, ◌+◌, ◌-◌, ◌*◌, ◌/◌, ◌%◌, ◌^◌, ◌≤◌, ◌<◌, true, false, cond, List, [], ◌∷◌, ◌++◌, map, ◌≡◌, refl, eqb, length, take, drop, set, get_or}
use Rattle.std.proofs.Common.{add-one, arith, sym, ap, ◌∙◌, drop-cons, get_or-take}
use Rattle.std.proofs.lemmas.List.{map-append, length-map}
use Rattle.std.proofs.Math.Option.{none, some}
use borrow.Author.Tests.{eqb-true, eqb-false, ne_eqb, le-leb, lt-leb}
use Rattle.std.proofs.Math.ListN.{get_or-map}
use Rattle.rules.specs.Facts.{by_test}
use Rattle.rules.specs.Numbers.{Answer, accepted, refused}
use Rattle.rules.specs.Schema.{Item}
use Rattle.rules.specs.Tries.{Row, is_entry, kept_with, at, ordered, manifest}
use Rattle.rules.proofs.TrieLaws.{Ordered, ordered_true, length_at}
use Rattle.rules.specs.Walks.{Walked, walked, passes_over}
use Rattle.rules.proofs.WalkLaws.{kept_stored, kept_map, WentTo, went_start, went_end, went_over, went_next, went_refused}
use Rattle.rules.specs.Typing.{Fate, stays, dropped, wrong, fate, with_type, typed, TypedTo, typed_to, type_row}
use Rattle.rules.proofs.TypingLaws.{typed_walked, passed_untyped, stays_not_dropped}
use Rattle.words.specs.Runs.{stored, refusing}
use Rattle.words.specs.RunLaws.{stored_next, copied}
use Rattle.rows.specs.Words.{row_in, word_of, depth_in, step_in, type_from, typed_word}
use Rattle.rows.specs.States.{rows_of, rows_in, lawful_state, storing}
use Rattle.schema.specs.Items.{items_in, lawful_schema}
use Rattle.type_annotations.specs.Outcomes.{typed_in, TypedRows}

-- ---- a row's word with a type

-- what the parts of a word below its type come to
low_parts : (w : ℕ) → w % 32 + (cond (eqb (w / 32 % 2) 1) 32 0 + 64 * (w / 64 % 2 ^ 19)) ≡ w % 2 ^ 25
low_parts w =
    by_test (eqb (w / 32 % 2) 1)
    (λ e. rw e (omega (arith, eqb-true (w / 32 % 2) 1 e)))
    (λ e. rw e (omega (arith, eqb-false (w / 32 % 2) 1 e)))

pub typed-word : (w t : ℕ) → (depth_in w ≡ 0 → ⊥) → word_of (with_type t (row_in w)) ≡ typed_word (t + 1) w
typed-word w t node = rw (ne_eqb (w % 32) 0 node) (omega (arith, low_parts w))

type_next : (t : ℕ) → type_from (t + 1) ≡ some t
type_next t = rw (add-one t)

-- ---- one row

module _ (items : List Item) (place : ℕ) (row : Row) (rows : List Row) (w : Walked ℕ TypedTo) (node : is_entry row ≡ false) where
  abbrev asks : Fate
  asks = fate items w.state.request (get_or w.kept (row.depth - 1) none) row rows

  row_stays :
      (t : ℕ)
      → asks ≡ stays t
      → type_row items place row rows w ≡ accepted (some t, typed_to w.state.entries w.state.request (w.state.rows ++ (with_type t row ∷ [])))
  row_stays t q = rw (node, q)

  row_dropped : asks ≡ dropped → type_row items place row rows w ≡ accepted (none, w.state)
  row_dropped q = rw (node, q)

  row_wrong : (number : ℕ) → asks ≡ wrong number → type_row items place row rows w ≡ refused number (place - w.state.entries)
  row_wrong number q = rw (node, q)

-- ---- the walk

-- i rows are typed: for each depth down to the last row the array has its type's number, and the words that stay are stored
pub record TypingTo
    (items : List Item) (rows : List ℕ) (i : ℕ) (above : List ℕ) (request entries count : ℕ) (out : List ℕ) : Type 0 where
  pub place : List ℕ
  pub depths : ℕ
  pub deep : length place ≡ depths
  pub kept : List Row
  pub left : Ordered place (rows_of (drop i rows))
  pub words_kept : stored count out ≡ map word_of kept
  pub few_kept : count ≤ i
  pub few_entries : entries ≤ i
  pub went :
      WentTo (type_row items) (walked [] (typed_to 0 0 [])) (rows_of rows) i
      (walked (map type_from (take depths above)) (typed_to entries request kept))

drop_rows : (i : ℕ) (words : List ℕ) → drop i (rows_of words) ≡ rows_of (drop i words)
drop_rows zero words = refl
drop_rows (suc i) [] = refl
drop_rows (suc i) (w ∷ words) = drop_rows i words

module _ (items : List Item) (rows : List ℕ) where
  pub typing_none : (above out : List ℕ) → ordered [] (rows_of rows) ≡ true → TypingTo items rows 0 above 0 0 0 out
  typing_none above out in_order = record {
    place = [];
    depths = 0;
    deep = refl;
    kept = [];
    left = ordered_true [] (rows_of rows) in_order;
    words_kept = refl;
    few_kept = omega arith;
    few_entries = omega arith;
    went = went_start (type_row items) (walked [] (typed_to 0 0 [])) (rows_of rows);
  }

  module _ {i : ℕ} {above : List ℕ} {request entries count : ℕ} {out : List ℕ} (to : TypingTo items rows i above request entries count out) where
    -- no row is left
    pub typing_all : length rows ≤ i → typed items (rows_of rows) ≡ accepted to.kept
    typing_all h = typed_walked items (rows_of rows) ∙ rw (went_end to.went (omega (arith, length-map rows row_in)))

    module _ (more : i < length rows) where
      abbrev word : ℕ
      word = get_or rows i 0

      abbrev row : Row
      row = row_in word

      rows_left : rows_of (drop i rows) ≡ row ∷ rows_of (drop (i + 1) rows)
      rows_left = rw (add-one, drop-cons rows i 0 more)

      next : drop i (rows_of rows) ≡ row ∷ drop (i + 1) (rows_of rows)
      next = rw (drop_rows i rows, drop_rows (i + 1) rows) rows_left

      in_order : Ordered to.place (row ∷ rows_of (drop (i + 1) rows))
      in_order = rw rows_left at to.left

      -- the next row is at most one deeper than the last, and not too deep
      near : depth_in word ≤ to.depths
      unfolding Ordered
      near = rw (← to.deep) in_order.1.near

      pub shallow : depth_in word ≤ 24
      unfolding Ordered
      shallow = in_order.2

      place_next : length (at to.place row) ≡ depth_in word + 1
      place_next = length_at to.place row (rw to.deep near)

      after : Ordered (at to.place row) (rows_of (drop (i + 1) rows))
      unfolding Ordered
      after = in_order.3

      module _ (inside : depth_in word < length above) where
        -- what is kept with it, where its number is stored
        kept_next :
            (number : ℕ)
            → kept_with (map type_from (take to.depths above)) row (type_from number)
            ≡ map type_from (take (depth_in word + 1) (set above (depth_in word) number))
        kept_next number =
            kept_map type_from (take to.depths above) row number
            ∙ ap (λ (l : List ℕ). map type_from l) (sym (kept_stored above to.depths row number near inside))

        -- an entry stays
        pub typing_entry :
            depth_in word ≡ 0
            → word_of row ≡ word
            → count + 1 < length out
            → TypingTo items rows (i + 1) (set above (depth_in word) 1) (step_in word) (entries + 1) (count + 1) (set out (count + 1) word)
        typing_entry first whole room = record {
          place = at to.place row;
          depths = depth_in word + 1;
          deep = place_next;
          kept = to.kept ++ (row ∷ []);
          left = after;
          words_kept = stored_next out count word room ∙ rw (to.words_kept, map-append, whole);
          few_kept = omega (arith, to.few_kept);
          few_entries = omega (arith, to.few_entries);
          went = rw (← kept_next 1) (went_next to.went next (rw first) (rw first));
        }

        -- any other row is a node, below one that has a type's number
        module _ (node : depth_in word ≡ 0 → ⊥) where
          abbrev given : Fate
          given = fate items request (type_from (get_or above (depth_in word - 1) 0)) row (rows_of (drop (i + 1) rows))

          -- the type above is what is kept there
          above_row : get_or (map type_from (take to.depths above)) (depth_in word - 1) none ≡ type_from (get_or above (depth_in word - 1) 0)
          above_row =
              get_or-map type_from (take to.depths above) (depth_in word - 1) 0
              ∙ ap type_from (get_or-take to.depths above (depth_in word - 1) 0 (omega (arith, near)))

          -- where that is none the node is dropped
          passed : passes_over (take (depth_in word) (map type_from (take to.depths above))) ≡ true → given ≡ dropped
          passed over =
              let deep : depth_in word ≡ suc (depth_in word - 1) = omega arith in
              rw (← above_row, passed_untyped (map type_from (take to.depths above)) (depth_in word - 1) (rw (← deep) over))

          -- so a node that is not dropped is looked at
          looked : (given ≡ dropped → ⊥) → passes_over (take (depth_in word) (map type_from (take to.depths above))) ≡ false
          looked other = by_test (passes_over (take (depth_in word) (map type_from (take to.depths above)))) (λ over. absurd (other (passed over))) (λ e. e)

          -- what the walk asks is that fate
          asked : fate items request (get_or (map type_from (take to.depths above)) (depth_in word - 1) none) row (drop (i + 1) (rows_of rows)) ≡ given
          asked = rw (above_row, drop_rows (i + 1) rows)

          not_first : is_entry row ≡ false
          not_first = ne_eqb (depth_in word) 0 node

          abbrev come : Walked ℕ TypedTo
          come = walked (map type_from (take to.depths above)) (typed_to entries request to.kept)

          pub typing_stays :
              (t : ℕ)
              → given ≡ stays t
              → count + 1 < length out
              → TypingTo items rows (i + 1) (set above (depth_in word) (t + 1)) request entries (count + 1) (set out (count + 1) (typed_word (t + 1) word))
          typing_stays t e room = record {
            place = at to.place row;
            depths = depth_in word + 1;
            deep = place_next;
            kept = to.kept ++ (with_type t row ∷ []);
            left = after;
            words_kept = stored_next out count _ room ∙ rw (to.words_kept, map-append, typed-word word t node);
            few_kept = omega (arith, to.few_kept);
            few_entries = omega (arith, to.few_entries);
            went =
                rw (← kept_next (t + 1), type_next t)
                (went_next to.went next (looked (λ d. stays_not_dropped t (sym d ∙ e)))
                (row_stays items i row (drop (i + 1) (rows_of rows)) come not_first t (asked ∙ e)));
          }

          pub typing_dropped : given ≡ dropped → TypingTo items rows (i + 1) (set above (depth_in word) 0) request entries count out
          typing_dropped e = record {
            place = at to.place row;
            depths = depth_in word + 1;
            deep = place_next;
            kept = to.kept;
            left = after;
            words_kept = to.words_kept;
            few_kept = omega (arith, to.few_kept);
            few_entries = omega (arith, to.few_entries);
            went =
                rw (← kept_next 0)
                (by_test (passes_over (take (depth_in word) (map type_from (take to.depths above))))
                (λ over. went_over to.went next over)
                (λ looks. went_next to.went next looks (row_dropped items i row (drop (i + 1) (rows_of rows)) come not_first (asked ∙ e))));
          }

          pub typing_wrong : (number : ℕ) → given ≡ wrong number → typed items (rows_of rows) ≡ refused number (i - entries)
          typing_wrong number e =
              let stands = looked (λ d. let z : dropped ≡ wrong number = sym d ∙ e in let y : ◌≡◌ {A = ℕ} 0 1 = cc in absurd (omega arith)) in
              typed_walked items (rows_of rows) ∙ rw (went_refused to.went next stands (row_wrong items i row (drop (i + 1) (rows_of rows)) come not_first number (asked ∙ e)))

-- ---- what the operation answers

-- the words that were stored, with their count in front, are those of the rows that stay
pub typed_copied :
    {answer : Answer (List Row)} (words : List ℕ) (count : ℕ) (to : TypedRows answer words count)
    → take (get_or (set words 0 count) 0 0 + 1) (set words 0 count) ≡ length to.rows ∷ map word_of to.rows
typed_copied words count to = copied words count to.inside ∙ rw (to.words_stored, length-map)

-- by the tests that it makes in turn
module _ (schema state out : List ℕ) where
  pub typed_short : length schema < 142337 → typed_in schema state out ≡ refusing 31 0 out
  unfolding typed_in
  typed_short h = rw (lt-leb 142337 (length schema) h)

  module _ (long : 142337 ≤ length schema) where
    pub typed_short_state : length state < 4161 → typed_in schema state out ≡ refusing 31 0 out
    unfolding typed_in
    typed_short_state h = rw (le-leb 142337 (length schema) long, lt-leb 4161 (length state) h)

    module _ (whole : 4161 ≤ length state) where
      pub typed_short_out : length out < 4161 → typed_in schema state out ≡ refusing 31 0 out
      unfolding typed_in
      typed_short_out h = rw (le-leb 142337 (length schema) long, le-leb 4161 (length state) whole, lt-leb 4161 (length out) h)

      module _ (room : 4161 ≤ length out) where
        pub typed_unlawful : lawful_schema schema ≡ false → typed_in schema state out ≡ refusing 1 0 out
        unfolding typed_in
        typed_unlawful h = rw (le-leb 142337 (length schema) long, le-leb 4161 (length state) whole, le-leb 4161 (length out) room, h)

        module _ (lawful : lawful_schema schema ≡ true) where
          pub typed_unlawful_state : lawful_state manifest state ≡ false → typed_in schema state out ≡ refusing 1 0 out
          unfolding typed_in
          typed_unlawful_state h = rw (le-leb 142337 (length schema) long, le-leb 4161 (length state) whole, le-leb 4161 (length out) room, lawful, h)

          pub typed_lawful : lawful_state manifest state ≡ true → typed_in schema state out ≡ storing out (typed (items_in schema) (rows_in state))
          unfolding typed_in
          typed_lawful h = rw (le-leb 142337 (length schema) long, le-leb 4161 (length state) whole, le-leb 4161 (length out) room, lawful, h)
