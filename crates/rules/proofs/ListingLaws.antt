-- Laws of the listing: what is written is read back, and what is accepted is what would be written. No contract cites this file.
use Rattle.std.specs.Prelude.{ℕ, zero, suc, ◌+◌, ◌^◌, ◌≤◌, ◌<◌, ◌≡◌, ◌≢◌, ◌↔◌, Bool, true, false, cond, not, ◌&&◌, leb, ltb, eqb, length, get_or}
use Rattle.std.proofs.Math.Nat.{add-zero}
use Rattle.std.proofs.Common.{zero-add, arith, sym, ap, ◌∙◌, ltb-true, ltb-false, leb-true, leb-false, eqb-true, lt-ltb, le-ltb, le-leb, eq-eqb, ne_eqb}
use Rattle.std.proofs.Math.Path.{refl, subst}
use Rattle.std.proofs.Math.Bool.{and-eq-true_iff}
use Rattle.std.proofs.lemmas.Bool.{false≢true, lt-leb, not-true, not-false}
use mathlib.Core.List.{List, [], ◌∷◌, ◌++◌, map, append_assoc, nil≢cons, map-eq-nil_iff}
use Rattle.std.proofs.Math.Option.{Option, none, some, none-ne-some, some-injective}
use Rattle.std.proofs.Math.Seq.{append_snoc}
use Rattle.rules.specs.Numbers.{Answer, accepted, refused, most_steps}
use Rattle.rules.specs.Text.{bytes, LF, TAB, parted, lines_of, fields_of, decimal_of, decimal_in, number_from, decimal_up_to}
use Rattle.rules.specs.Tries.{
  Row,
  Form,
  ids,
  step_of,
  kind_of,
  id_of,
  is_step,
  is_root,
  is_row,
  is_entry,
  request_of,
  principal_of,
  action_of,
  resource_of,
  follows,
  ordered,
  count,
  entries_in,
  nodes_in,
  manifest,
  contribution,
  lawful,
}
use Rattle.rules.specs.Listing.{
  line_of,
  letters,
  fields_for,
  listing,
  ◌>>=◌,
  is_letter,
  place_in,
  mark_of,
  read,
  entry_of,
  node_of,
  row_of,
  Sofar,
  start,
  past,
  refusal,
  row_in_front,
  rows_from,
  entered_by,
  read_listing,
}
use Rattle.rules.specs.Facts.{by_test, by_option, and-false, cond-some, cond_other, cond-none, accepted_same}
use Rattle.rules.proofs.TextLaws.{
  Free,
  free_empty,
  free_more,
  parted_first,
  parted_some,
  joined_by,
  joined_parted,
  AllFree,
  one_free,
  more_free,
  parted_joined,
  free_joined,
  decimal_read,
  decimal_written,
  free_decimal,
}
use Rattle.rules.proofs.TrieLaws.{Follows, follows_true, true_follows, Ordered, ordered_true, true_ordered, entry_unmarked, node_step, bare}
pub use Rattle.rules.specs.ListingLaws.{Written, Allowed, Within, WithinAll, ReadFrom, Lawful}
unfoldable pub use Rattle.rules.specs.ListingLaws.{AllAllowed}

-- A line that is read.

-- what is read after another was read
pub bind_some :
    {A B P : Type 0} (o : Option A) (next : A → Option B) (b : B)
    → (o >>= next) ≡ some b
    → ((a : A) → o ≡ some a → next a ≡ some b → P)
    → P
bind_some none next b e then = absurd (none-ne-some b e)
bind_some (some a) next b e then = then a refl e

-- a field that is one letter
letter_read : (letter : ℕ) (field : List ℕ) → is_letter letter field ≡ true → field ≡ letter ∷ []
letter_read letter [] e = absurd (false≢true e)
letter_read letter (byte ∷ []) e = rw (eqb-true byte letter e)
letter_read letter (byte ∷ more ∷ field) e = absurd (false≢true e)

-- a letter that is found among some letters stands at its place
pub place_read :
    (among field : List ℕ) (n : ℕ) → place_in among field ≡ some n → (n < length among) × (field ≡ get_or among n 0 ∷ [])
unfolding place_in
place_read [] field n e = absurd (none-ne-some n e)
place_read (x ∷ xs) field n e = go (is_letter x field) refl (place_read xs field) e
  where
    go :
        (found : Bool)
        → is_letter x field ≡ found
        → ((m : ℕ) → place_in xs field ≡ some m → (m < length xs) × (field ≡ get_or xs m 0 ∷ []))
        → cond found (some 0) (place_in xs field >>= (λ m. some (m + 1))) ≡ some n
        → (n < suc (length xs)) × (field ≡ get_or (x ∷ xs) n 0 ∷ [])
    go true q later e = rw (← some-injective 0 n e) (omega arith, letter_read x field q)
    go false q later e =
        bind_some (place_in xs field) (λ m. some (m + 1)) n e λ m at-m e.
        let next : suc m ≡ n = omega (arith, some-injective (m + 1) n e) in
        let (inside, same) = later m at-m in
        rw (← next) (omega arith, same)

-- a mark is written as 1 or 0
mark_read : (field : List ℕ) (mark : Bool) → mark_of field ≡ some mark → field ≡ cond mark (bytes "1") (bytes "0")
unfolding decimal_in
mark_read field mark e =
    bind_some (decimal_of field) _ mark e λ n number e.
    let (digits, _) = decimal_written field n number in
    digits
    ∙ by_test (eqb n 0)
    (λ z. rw (eqb-true n 0 z, ← some-injective false mark (rw z at e)))
    (λ z.
    let (o, e) = cond-some (eqb n 1) (some true) mark (rw z at e) in
    rw (eqb-true n 1 o, ← some-injective true mark e))

-- so it is with fields that are read as an entry, as a node, and as any row
entry_read :
    (word b c d : List ℕ) (row : Row)
    → is_letter 65 word ≡ true
    → entry_of b c d ≡ some row
    → Written (word ∷ b ∷ c ∷ d ∷ []) row
entry_read word b c d row l e =
    bind_some (decimal_of b) _ row e λ p of-b e.
    bind_some (decimal_of c) _ row e λ a of_c e.
    bind_some (decimal_of d) _ row e λ r of-d e.
    let (digits-b, small-p) = decimal_written b p of-b in
    let (digits-c, small-a) = decimal_written c a of_c in
    let (digits-d, small_r) = decimal_written d r of-d in
    let principal : principal_of (request_of p a r) ≡ p = omega arith in
    let action : action_of (request_of p a r) ≡ a = omega arith in
    let resource : resource_of (request_of p a r) ≡ r = omega arith in
    subst
    (Written (word ∷ b ∷ c ∷ d ∷ []))
    (some-injective _ row e)
    (rw (letter_read 65 word l, principal, action, resource, digits-b, digits-c, digits-d), rw (lt-ltb (request_of p a r) (65536 ^ 3) (omega arith)), refl)

node_read :
    (word b c d f : List ℕ) (row : Row)
    → is_letter 78 word ≡ true
    → node_of b c d f ≡ some row
    → Written (word ∷ b ∷ c ∷ d ∷ f ∷ []) row
node_read word b c d f row l e =
    bind_some (decimal_of b) _ row e λ depth of-b e.
    bind_some (place_in letters c) _ row e λ kind of_c e.
    bind_some (decimal_of d) _ row e λ id of-d e.
    bind_some (mark_of f) _ row e λ mark of-f e.
    let (deep, e) = cond_other (eqb depth 0) _ row e in
    let (whole, e) = cond-some (is_row (read depth (step_of kind id) mark)) _ row e in
    let (digits-b, _) = decimal_written b depth of-b in
    let (_, letter) = place_read letters c kind of_c in
    let (digits-d, small-id) = decimal_written d id of-d in
    let same_kind : kind_of (step_of kind id) ≡ kind = omega arith in
    let same_id : id_of (step_of kind id) ≡ id = omega arith in
    subst
    (Written (word ∷ b ∷ c ∷ d ∷ f ∷ []))
    (some-injective _ row e)
    (rw (deep, letter_read 78 word l, same_kind, same_id, digits-b, letter, digits-d, mark_read f mark of-f), whole, refl)

row_read : (fields : List (List ℕ)) (row : Row) → row_of fields ≡ some row → Written fields row
unfolding row_of
row_read [] row e = absurd (none-ne-some row e)
row_read (a ∷ []) row e = absurd (none-ne-some row e)
row_read (a ∷ b ∷ []) row e = absurd (none-ne-some row e)
row_read (a ∷ b ∷ c ∷ []) row e = absurd (none-ne-some row e)
row_read (word ∷ b ∷ c ∷ d ∷ []) row e = let (l, e) = cond-some (is_letter 65 word) _ row e in entry_read word b c d row l e
row_read (word ∷ b ∷ c ∷ d ∷ f ∷ []) row e = let (l, e) = cond-some (is_letter 78 word) _ row e in node_read word b c d f row l e
row_read (a ∷ b ∷ c ∷ d ∷ f ∷ g ∷ more) row e = absurd (none-ne-some row e)

-- a line's row is one by itself
pub row_is_row : (fields : List (List ℕ)) (row : Row) → row_of fields ≡ some row → is_row row ≡ true
row_is_row fields row e = (row_read fields row e).1

-- A line that is written.

-- a kind's letter is found at its place
letter_place : (kind : ℕ) → kind ≤ 5 → place_in letters (get_or letters kind 0 ∷ []) ≡ some kind
unfolding place_in
letter_place zero h = refl
letter_place (suc zero) h = refl
letter_place (suc (suc zero)) h = refl
letter_place (suc (suc (suc zero))) h = refl
letter_place (suc (suc (suc (suc zero)))) h = refl
letter_place (suc (suc (suc (suc (suc zero))))) h = refl
letter_place (suc (suc (suc (suc (suc (suc kind)))))) h = absurd (omega arith)

-- a mark that is written is read
mark_written : (mark : Bool) → mark_of (cond mark (bytes "1") (bytes "0")) ≡ some mark
unfolding decimal_up_to number_from
mark_written true = refl
mark_written false = refl

-- the fields that are written for an entry, for a node, and for any row are read as the row, but for its type
entry_written : (row : Row) → is_row row ≡ true → is_entry row ≡ true → row_of (fields_for row) ≡ some (bare row)
unfolding row_of
entry_written row h e =
    let (small, _) = (and-eq-true_iff (ltb row.step (ids ^ 3)) _).0 (rw e at h) in
    let bound : row.step < ids ^ 3 = ltb-true _ _ small in
    let same : request_of (principal_of row.step) (action_of row.step) (resource_of row.step) ≡ row.step = omega arith in
    rw (
      e,
      decimal_read (principal_of row.step) (omega arith),
      decimal_read (action_of row.step) (omega arith),
      decimal_read (resource_of row.step) (omega arith),
      same,
      eqb-true row.depth 0 e,
      entry_unmarked row h e,
    )

node_written :
    (row : Row) → is_row row ≡ true → row.depth ≤ most_steps → is_entry row ≡ false → row_of (fields_for row) ≡ some (bare row)
unfolding row_of
node_written row h shallow e =
    let (of-step, _) = (and-eq-true_iff (cond (eqb row.depth 1) (is_root row.step) (is_step row.step)) _).0 (rw e at h) in
    let few : kind_of row.step ≤ 5 = leb-true _ _ ((and-eq-true_iff (leb (kind_of row.step) 5) _).0 (node_step row h e)).0 in
    let same : step_of (kind_of row.step) (id_of row.step) ≡ row.step = omega arith in
    rw (
      e,
      decimal_read row.depth (omega arith),
      letter_place (kind_of row.step) few,
      decimal_read (id_of row.step) (omega arith),
      mark_written row.mark,
      same,
      e,
      of-step,
    )

row_written : (row : Row) → is_row row ≡ true → row.depth ≤ most_steps → row_of (fields_for row) ≡ some (bare row)
row_written row h shallow = by_test (is_entry row) (entry_written row h) (node_written row h shallow)

-- Lines.

-- a line is its fields with a tab between each two, and then LF
line_joined : (fields : List (List ℕ)) → line_of fields ≡ joined_by TAB fields ++ (LF ∷ [])
unfolding line_of joined_by
line_joined [] = refl
line_joined (field ∷ []) = refl
line_joined (field ∷ more ∷ fields) = rw (line_joined (more ∷ fields)) (sym (append_assoc field (TAB ∷ joined_by TAB (more ∷ fields)) (LF ∷ [])))

-- a byte below the digits is no letter of a kind
letter_free : (b kind : ℕ) → 0 < b → b < 48 → get_or letters kind 0 ≢ b
letter_free b zero pos low = omega arith
letter_free b (suc zero) pos low = omega arith
letter_free b (suc (suc zero)) pos low = omega arith
letter_free b (suc (suc (suc zero))) pos low = omega arith
letter_free b (suc (suc (suc (suc zero)))) pos low = omega arith
letter_free b (suc (suc (suc (suc (suc zero))))) pos low = omega arith
letter_free b (suc (suc (suc (suc (suc (suc kind)))))) pos low = omega arith

-- it is in no field of a row
fields_free : (b : ℕ) (row : Row) → 0 < b → b < 48 → AllFree b (fields_for row)
fields_free b row pos low =
    by_test (is_entry row)
    (λ e. rw e
    (more_free (one 65 (omega arith)) (more_free (free_decimal b _ low) (more_free (free_decimal b _ low) (one_free (free_decimal b _ low))))))
    (λ e. rw e
    (more_free (one 78 (omega arith))
    (more_free (free_decimal b _ low)
    (more_free (one _ (letter_free b (kind_of row.step) pos low))
    (more_free (free_decimal b (id_of row.step) low) (one_free (mark row.mark)))))))
  where
    one : (byte : ℕ) → byte ≢ b → Free b (byte ∷ [])
    one byte other = free_more other free_empty

    mark : (m : Bool) → Free b (cond m (bytes "1") (bytes "0"))
    mark true = one 49 (omega arith)
    mark false = one 48 (omega arith)

-- so the line of a row has the fields of the row
fields_parted : (row : Row) → fields_of (joined_by TAB (fields_for row)) ≡ fields_for row
fields_parted row = parted_joined (fields_free TAB row (omega arith) (omega arith))

-- and in front of a text it is the first line
lines_more : (row : Row) (text : List ℕ) → lines_of (line_of (fields_for row) ++ text) ≡ joined_by TAB (fields_for row) ∷ lines_of text
lines_more row text =
    rw (line_joined (fields_for row), append_snoc)
    (parted_first (free_joined TAB (omega arith) (fields_free LF row (omega arith) (omega arith))) text)

-- Rows that may come.

-- it gives no refusal exactly where it may come
refusal_none : (form : Form) (sofar : Sofar) (row : Row) → (refusal form sofar row ≡ none) ↔ Allowed form sofar row
refusal_none form sofar row = (
  λ e.
      let (second, e) = (cond-none {A = ℕ} ((form.single && is_entry row) && ltb 0 sofar.entries) 1 _).0 e in
      let (astray, e) = (cond-none {A = ℕ} (not (follows sofar.place row)) 2 _).0 e in
      let (deep, e) = (cond-none {A = ℕ} (ltb most_steps row.depth) 3 _).0 e in
      let (many_entries, e) = (cond-none {A = ℕ} (is_entry row && leb form.entries sofar.entries) 5 _).0 e in
      let (many_nodes, _) = (cond-none {A = ℕ} (not (is_entry row) && leb form.nodes sofar.nodes) 4 _).0 e in
      record {
        once = λ s n. omega (arith, ltb-false 0 sofar.entries ((and-false (form.single && is_entry row) _).0 second ((and-eq-true_iff form.single _).1 (s, n))));
        placed = follows_true sofar.place row (not-false _ astray);
        shallow = ltb-false most_steps row.depth deep;
        entry_room = λ n. leb-false _ _ ((and-false (is_entry row) _).0 many_entries n);
        node_room = λ n. leb-false _ _ ((and-false (not (is_entry row)) _).0 many_nodes (rw n));
      },
  λ a.
      simp (
        (and-false (form.single && is_entry row) _).1 (λ both. let (s, n) = (and-eq-true_iff form.single (is_entry row)).0 both in le-ltb 0 sofar.entries (omega (arith, a.once s n))),
        true_follows sofar.place row a.placed,
        le-ltb _ _ a.shallow,
        (and-false (is_entry row) _).1 (λ n. lt-leb _ _ (a.entry_room n)),
        (and-false (not (is_entry row)) _).1 (λ n. lt-leb _ _ (a.node_room (not-true (is_entry row) n))),
      ),
)

-- a first row is counted as an entry or as a node
entry_counted :
    (row : Row) (rows : List Row)
    → is_entry row ≡ true
    → (entries_in (row ∷ rows) ≡ suc (entries_in rows)) × (nodes_in (row ∷ rows) ≡ nodes_in rows)
unfolding count
entry_counted row rows e = (rw e, rw e)

node_counted :
    (row : Row) (rows : List Row)
    → is_entry row ≡ false
    → (entries_in (row ∷ rows) ≡ entries_in rows) × (nodes_in (row ∷ rows) ≡ suc (nodes_in rows))
unfolding count
node_counted row rows e = (rw e, rw e)

module _ (form : Form) (sofar : Sofar) (row : Row) where
  -- a row that has come is counted once
  past_counted :
      (rows : List Row)
      → ((past sofar row).entries + entries_in rows ≡ sofar.entries + entries_in (row ∷ rows))
      × ((past sofar row).nodes + nodes_in rows ≡ sofar.nodes + nodes_in (row ∷ rows))
  past_counted rows =
      by_test (is_entry row)
      (λ e. rw e (omega (arith, entry_counted row rows e)))
      (λ e. rw e (omega (arith, node_counted row rows e)))

  -- so the limits say the same row_in_front and after it
  within_past : (rows : List Row) → WithinAll form (past sofar row) rows ≡ WithinAll form sofar (row ∷ rows)
  within_past rows = let (entries, nodes) = past_counted rows in rw (entries, nodes)

  -- with a row that may come a run stays within the limits
  allowed_within : Within form sofar.entries sofar.nodes → Allowed form sofar row →
      Within form (past sofar row).entries (past sofar row).nodes
  allowed_within w a =
      by_test (is_entry row)
      (λ e. rw e (record {
        single_entry = λ s. omega (arith, a.once s e);
        few_entries = omega (arith, a.entry_room e);
        few_nodes = w.few_nodes;
      }))
      (λ e. rw e (record { single_entry = w.single_entry; few_entries = w.few_entries; few_nodes = omega (arith, a.node_room e) }))

  -- a row with which it stays so, and that follows and is not too deep, may come
  within_allowed : (rows : List Row) → Follows sofar.place row → row.depth ≤ most_steps → WithinAll form sofar (row ∷ rows) → Allowed form sofar row
  within_allowed rows placed shallow w = record {
    once = λ s e. omega (arith, entry_counted row rows e, w.single_entry s);
    placed = placed;
    shallow = shallow;
    entry_room = λ e. omega (arith, entry_counted row rows e);
    node_room = λ e. omega (arith, node_counted row rows e);
  }

module _ (form : Form) where
  -- rows that may come one after the other are in order and stay within the limits
  allowed_ordered :
      (rows : List Row) (sofar : Sofar)
      → Within form sofar.entries sofar.nodes
      → AllAllowed form sofar rows
      → Ordered sofar.place rows × WithinAll form sofar rows
  unfolding AllAllowed Ordered count
  allowed_ordered [] sofar w a = (tt, simp add-zero w)
  allowed_ordered (row ∷ rows) sofar w (whole, allowed, rest) =
      let (order, within) = allowed_ordered rows (past sofar row) (allowed_within form sofar row w allowed) rest in
      ((whole, allowed.placed, allowed.shallow, order), rw (within_past form sofar row rows) at within)

  -- rows in order that stay within the limits may come one after the other
  ordered_allowed :
      (rows : List Row) (sofar : Sofar) → Ordered sofar.place rows → WithinAll form sofar rows → AllAllowed form sofar rows
  unfolding AllAllowed Ordered
  ordered_allowed [] sofar order w = tt
  ordered_allowed (row ∷ rows) sofar (whole, placed, shallow, order) w = (
    whole,
    within_allowed form sofar row rows placed shallow w,
    ordered_allowed rows (past sofar row) order (rw (within_past form sofar row rows) w),
  )

-- Lines after lines.

module _ (form : Form) where
  -- a line that is read as a row that may come gives the row, in front of what the lines after it give
  rows_more :
      (sofar : Sofar) (place : ℕ) (line text : List ℕ) (row : Row)
      → row_of (fields_of line) ≡ some row
      → refusal form sofar row ≡ none
      → rows_from form sofar place (line ∷ lines_of text) ≡ row_in_front row (rows_from form (past sofar row) (place + 1) (lines_of text))
  unfolding rows_from
  rows_more sofar place line text row is-row may-come = go (parted_some LF text)
    where
      go : (next : List ℕ) × (lines : List (List ℕ)) × (lines_of text ≡ next ∷ lines) →
          rows_from form sofar place (line ∷ lines_of text) ≡ row_in_front row (rows_from form (past sofar row) (place + 1) (lines_of text))
      go (next, lines, e) = rw (e, is-row, rows_from, may-come, rows_from)

  -- what is written for rows that may come is read as the rows, but for their types
  rows_written :
      (rows : List Row) (sofar : Sofar) (place : ℕ)
      → AllAllowed form sofar rows
      → rows_from form sofar place (lines_of (listing rows)) ≡ accepted (map bare rows)
  unfolding AllAllowed listing rows_from parted
  rows_written [] sofar place a = refl
  rows_written (row ∷ rows) sofar place (whole, allowed, rest) =
      let is-row : row_of (fields_of (joined_by TAB (fields_for row))) ≡ some (bare row) = rw (fields_parted row) (row_written row whole allowed.shallow) in
      rw (
        lines_more row (listing rows),
        rows_more sofar place (joined_by TAB (fields_for row)) (listing rows) (bare row) is-row ((refusal_none form sofar row).1 allowed),
        rows_written rows (past sofar row) (place + 1) rest,
      )

-- a refusal accepts nothing
pub refused_not : {A B : Type 0} (number place : ℕ) (a : A) → refused number place ≡ accepted a → B
refused_not number place a e = let z : ◌≡◌ {A = ℕ} 0 1 = cc in absurd (omega arith)

-- rows that are accepted behind a row are that row and others that were accepted
before_accepted :
    {P : Type 0} (row : Row) (answer : Answer (List Row)) (rows : List Row)
    → row_in_front row answer ≡ accepted rows
    → ((others : List Row) → answer ≡ accepted others → row ∷ others ≡ rows → P)
    → P
before_accepted row (accepted others) rows e then = then others refl (accepted_same (row ∷ others) rows e)
before_accepted row (refused number place) rows e then = refused_not number place rows e

module _ (form : Form) where
  -- no line is read as no rows
  nothing_read : (sofar : Sofar) (rows : List Row) → accepted [] ≡ accepted rows → ReadFrom form sofar [] rows
  unfolding listing AllAllowed
  nothing_read sofar rows e =
      subst (ReadFrom form sofar []) (accepted_same [] rows e) (record { written = refl; allowed = tt; untyped = refl })

  -- a line in front of a text is read as a row in front of the text's rows
  line_read :
      (sofar : Sofar) (line text : List ℕ) (row : Row) (others : List Row)
      → row_of (fields_of line) ≡ some row
      → refusal form sofar row ≡ none
      → ReadFrom form (past sofar row) text others
      → ReadFrom form sofar (line ++ LF ∷ text) (row ∷ others)
  unfolding listing AllAllowed
  line_read sofar line text row others is-row may-come rest =
      let (fields, whole, plain) = row_read (fields_of line) row is-row in
      record {
        written = rw (fields, line_joined (fields_of line), joined_parted TAB line, rest.written, append_snoc);
        allowed = (whole, (refusal_none form sofar row).0 may-come, rest.allowed);
        untyped = λ i. plain i ∷ rest.untyped i;
      }

  -- what is accepted from lines is read from the text that they make
  lines_read :
      (lines : List (List ℕ)) (sofar : Sofar) (place : ℕ) (rows : List Row)
      → rows_from form sofar place lines ≡ accepted rows
      → ReadFrom form sofar (joined_by LF lines) rows
  unfolding rows_from joined_by
  lines_read [] sofar place rows e = nothing_read sofar rows e
  lines_read ([] ∷ []) sofar place rows e = nothing_read sofar rows e
  lines_read ((byte ∷ line) ∷ []) sofar place rows e =
      refused_not 1 place rows (rw (ne_eqb (suc (length line)) 0 (omega arith)) at e)
  lines_read (line ∷ next ∷ lines) sofar place rows e =
      by_option (row_of (fields_of line))
      (λ q. refused_not 1 place rows (rw (q, rows_from) at e))
      (λ row q.
      by_option (refusal form sofar row)
      (λ r.
      before_accepted row _ rows (rw (q, rows_from, r, rows_from) at e)
      (λ others f same.
      subst
      (ReadFrom form sofar (line ++ LF ∷ joined_by LF (next ∷ lines)))
      same
      (line_read sofar line _ row others q r (lines_read (next ∷ lines) (past sofar row) (place + 1) others f))))
      (λ number r. refused_not number place rows (rw (q, rows_from, r, rows_from) at e)))

-- Texts.

-- where the test `lawful` is true a run is so, if the form has room for its single entry
lawful_true :
    (form : Form) (rows : List Row) → (form.single ≡ true → 1 ≤ form.entries) → lawful form rows ≡ true → Lawful form rows
unfolding count
lawful_true form rows room h =
    let (order, counts) = (and-eq-true_iff (ordered [] rows) _).0 h in
    let (entries, nodes) =
    (and-eq-true_iff (cond form.single (eqb (entries_in rows) 1) (leb (entries_in rows) form.entries)) _).0 counts
    in
    let one : form.single ≡ true → entries_in rows ≡ 1 = λ s. eqb-true _ _ (rw s at entries) in
    record {
      order = ordered_true [] rows order;
      within = record {
        single_entry = λ s. omega (arith, one s);
        few_entries = by_test form.single (λ s. omega (arith, one s, room s)) (λ s. leb-true _ _ (rw s at entries));
        few_nodes = leb-true _ _ nodes;
      };
      some_row = λ s empty. omega (arith, one s, ap (count is_entry) empty);
    }

-- the first row of a run is an entry
first_entry : (rows : List Row) → Ordered [] rows → rows ≢ [] → 1 ≤ entries_in rows
unfolding Ordered
first_entry [] order some_row = absurd (some_row refl)
first_entry (row ∷ rows) order some_row =
    let top : row.depth ≡ 0 = omega (arith, order.1.near) in
    omega (arith, entry_counted row rows (eq-eqb row.depth 0 top))

-- where a run is so the test is true
true_lawful : (form : Form) (rows : List Row) → Lawful form rows → lawful form rows ≡ true
true_lawful form rows h =
    by_test form.single
    (λ s.
    let some-entry = first_entry rows h.order (h.some_row s) in
    let one : entries_in rows ≡ 1 = omega (arith, h.within.single_entry s) in
    simp (true_ordered [] rows h.order, s, one, le-leb _ _ h.within.few_nodes))
    (λ s.
    simp (true_ordered [] rows h.order, s, le-leb _ _ h.within.few_entries, le-leb _ _ h.within.few_nodes))

-- rows are accepted as a text's exactly where they are accepted from its lines, and some are where there must be a single entry
entered :
    (form : Form) (answer : Answer (List Row)) (rows : List Row)
    → (entered_by form answer ≡ accepted rows) ↔ ((answer ≡ accepted rows) × (form.single ≡ true → rows ≢ []))
entered form (accepted []) rows = (
  λ e.
      by_test form.single
      (λ s. refused_not 1 0 rows (rw s at e))
      (λ s. (rw s at e, λ t. absurd (false≢true (sym s ∙ t)))),
  λ (e, some_row). by_test form.single (λ s. absurd (some_row s (sym (accepted_same [] rows e)))) (λ s. rw s e),
)
entered form (accepted (row ∷ others)) rows = (
  λ e. (e, λ _ empty. nil≢cons (sym (accepted_same (row ∷ others) rows e ∙ empty))),
  λ (e, _). e,
)
entered form (refused number place) rows = (λ e. refused_not number place rows e, λ (e, _). e)

-- What is written for a lawful run is read as the run, but for its types.
pub written_read :
    (form : Form)
    → (form.single ≡ true → 1 ≤ form.entries)
    → (rows : List Row)
    → lawful form rows ≡ true
    → read_listing form (listing rows) ≡ accepted (map bare rows)
written_read form room rows h =
    let is_lawful = lawful_true form rows room h in
    let allowed = ordered_allowed form rows start is_lawful.order (simp zero-add is_lawful.within) in
    (entered form _ (map bare rows)).1 (rows_written form rows start 0 allowed, λ s empty. is_lawful.some_row s ((map-eq-nil_iff bare).0 empty))

-- A manifest and a contribution have that room.
pub manifest_written_read :
    (rows : List Row) → lawful manifest rows ≡ true → read_listing manifest (listing rows) ≡ accepted (map bare rows)
manifest_written_read = written_read manifest (λ s. absurd (false≢true s))

pub contribution_written_read :
    (rows : List Row) → lawful contribution rows ≡ true → read_listing contribution (listing rows) ≡ accepted (map bare rows)
contribution_written_read = written_read contribution (λ _. omega arith)

-- A text that is accepted is byte for byte what is written for its rows; they are lawful and have no types.
pub read_written :
    (form : Form) (text : List ℕ) (rows : List Row)
    → read_listing form text ≡ accepted rows
    → (listing rows ≡ text) × (lawful form rows ≡ true) × (map bare rows ≡ rows)
read_written form text rows e =
    let (from-lines, some_row) = (entered form (rows_from form start 0 (lines_of text)) rows).0 e in
    let found = lines_read form (lines_of text) start 0 rows from-lines in
    let (order, within) =
    allowed_ordered form rows start
    (record { single_entry = λ _. omega arith; few_entries = omega arith; few_nodes = omega arith })
    found.allowed
    in (
      found.written ∙ joined_parted LF text,
      true_lawful form rows (record { order = order; within = simp zero-add at within; some_row = some_row }),
      found.untyped,
    )
