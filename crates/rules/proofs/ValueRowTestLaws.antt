-- A run that passes the test is the run of what is read from it, and the other way.
use Rattle.std.specs.Prelude.{ℕ, zero, suc, ◌+◌, ◌-◌, ◌≤◌, ◌<◌, ◌≡◌, refl, ◌↔◌, Bool, true, false, cond, ◌&&◌, List, [], ◌∷◌, ◌++◌, leb, ltb, eqb, length, get_or}
use Rattle.std.proofs.Common.{arith, sym, ap, ◌∙◌, append_assoc, append-nil, length-append, take_at, ltb-true, leb-true, eqb-true, lt-ltb, le-ltb, le-leb, eq-eqb, ne_eqb}
use Rattle.std.proofs.lemmas.Bool.{false≢true}
use Rattle.std.proofs.Math.Bool.{and-eq-true_iff}
use Rattle.std.proofs.Math.Option.{Option, none, some, none-ne-some}
use Rattle.std.proofs.Math.Dec.{leb-suc-suc}
use Rattle.std.proofs.lemmas.List.{get_or_at}
use Rattle.rules.specs.Facts.{by_test, compared, cond-true}
use Rattle.rules.specs.Tries.{ids}
use Rattle.rules.specs.Listing.{◌>>=◌}
use Rattle.rules.specs.Values.{Value, plain, extension, entity_id, set_of, record_of, Elements, no_element, element, Attributes, no_attribute, attribute, record_in, same_value, if_same, with_attribute, merged_values, merged_attributes, values_in, values_in_elements, values_in_attributes}
use Rattle.rules.specs.ValueRows.{ValueRow, value_row, set_kind, record_kind, value_rows, element_rows, attribute_rows, merge_rows, Past, AscendingIn, Ascending}
use Rattle.rules.proofs.ValueRowLaws.{Shallow, Deep, rows_inside, own_row, rows-of, deep_append, deep_elements, deep_fields, deep_inside, shallow_suc, shallow_elements, shallow_fields, fields_left, fields_right, fields_both, fields_no_left, fields_no_right, merged_leaf, one_pass, Every}
use Rattle.rules.specs.ValueRowTests.{elements_from, attributes_from, Level, level, is_value_row, fits_level, level_at, inside_value, beyond_value, by_row, is_first, earlier_rows, ahead_of, in_turn, comes, level_below, levels_after, passes, lawful_value_rows, Earlier, Proper, ProperElements, ProperFields}
pub use Rattle.rules.specs.ValueRowTestLaws.{read_value, deeper, deepen, group_rows, parts, ProperGroup, ProperParts, RowSays, after, ComesSays, Goes, ValueStays, FieldsStay}

-- The count of rows is the count of values.

mutual
  unfolding value_rows values_in

  count_value : (d k : ℕ) (v : Value) → length (value_rows d k v) ≡ suc (values_in v)
  count_value d k (plain n) = refl
  count_value d k (extension n) = refl
  count_value d k (entity_id n) = refl
  count_value d k (set_of a) = ap suc (count_elements (suc d) 0 a)
  count_value d k (record_of a) = ap suc (count_fields (suc d) a)

  pub count_elements : (d i : ℕ) (a : Elements) → length (element_rows d i a) ≡ values_in_elements a
  count_elements d i no_element = refl
  count_elements d i (element v a) =
      simp length-append (omega (arith, count_value d i v, count_elements d (suc i) a))

  pub count_fields : (d : ℕ) (a : Attributes) → length (attribute_rows d a) ≡ values_in_attributes a
  count_fields d no_attribute = refl
  count_fields d (attribute f v a) = simp length-append (omega (arith, count_value d f v, count_fields d a))

-- What is read from the rows of a value.

-- rows no shallower than a depth begin with nothing of it
pub read_above : (d : ℕ) (x : ValueRow) (rows : List ValueRow) → x.depth < d
    → (elements_from d (x ∷ rows) ≡ no_element) × (attributes_from d (x ∷ rows) ≡ no_attribute)
unfolding elements_from
read_above d x rows h = (rw lt-ltb, rw lt-ltb)

pub read_below : (d : ℕ) (x : ValueRow) (rows : List ValueRow) → d < x.depth
    → (elements_from d (x ∷ rows) ≡ elements_from d rows) × (attributes_from d (x ∷ rows) ≡ attributes_from d rows)
unfolding elements_from
read_below d x rows h = (
  rw (le-ltb x.depth d (omega arith), ne_eqb x.depth d (λ e. omega arith)),
  rw (le-ltb x.depth d (omega arith), ne_eqb x.depth d (λ e. omega arith)),
)

pub read_here : (d : ℕ) (x : ValueRow) (rows : List ValueRow) → x.depth ≡ d
    → (elements_from d (x ∷ rows) ≡ element (read_value d x rows) (elements_from d rows))
    × (attributes_from d (x ∷ rows) ≡ attribute x.key (read_value d x rows) (attributes_from d rows))
unfolding elements_from
read_here d x rows e = (
  rw (le-ltb x.depth d (omega arith), eq-eqb x.depth d e),
  rw (le-ltb x.depth d (omega arith), eq-eqb x.depth d e),
)

-- deeper rows are passed over, and shallower rows end it
read_past :
    (d : ℕ) (p q : List ValueRow)
    → Deep (suc d) p
    → (elements_from d (p ++ q) ≡ elements_from d q) × (attributes_from d (p ++ q) ≡ attributes_from d q)
unfolding Deep
read_past d [] q h = (refl, refl)
read_past d (x ∷ p) q h =
    let here = read_below d x (p ++ q) h.0 in
    let rest = read_past d p q h.1 in
    (here.0 ∙ rest.0, here.1 ∙ rest.1)

read_end : (d : ℕ) (q : List ValueRow) → Shallow d q → (elements_from d q ≡ no_element) × (attributes_from d q ≡ no_attribute)
unfolding elements_from
read_end d [] h = (refl, refl)
read_end d (x ∷ q) h = read_above d x q h

-- the rows of a value, and more
rows_of_more : (d k : ℕ) (v : Value) (p q : List ValueRow) → (value_rows d k v ++ p) ++ q ≡ own_row d k v ∷ (rows_inside (suc d) v ++ (p ++ q))
rows_of_more d k v p q = rw rows-of (ap (λ l. own_row d k v ∷ l) (append_assoc (rows_inside (suc d) v) p q))

mutual
  unfolding value_rows

  pub read-value : (d k : ℕ) (v : Value) (q : List ValueRow) → Shallow (suc d) q → read_value d (own_row d k v) (rows_inside (suc d) v ++ q) ≡ v
  read-value d k (plain n) q h = refl
  read-value d k (extension n) q h = refl
  read-value d k (entity_id n) q h = refl
  read-value d k (set_of a) q h = ap set_of (read_elements (suc d) 0 a q h)
  read-value d k (record_of a) q h = ap record_of (read_fields (suc d) a q h)

  pub read_elements : (d i : ℕ) (a : Elements) (q : List ValueRow) → Shallow d q → elements_from d (element_rows d i a ++ q) ≡ a
  read_elements d i no_element q h = (read_end d q h).0
  read_elements d i (element v a) q h =
      let more : List ValueRow = element_rows d (suc i) a ++ q in
      ap (elements_from d) (rows_of_more d i v (element_rows d (suc i) a) q)
      ∙ (read_here d (own_row d i v) (rows_inside (suc d) v ++ more) refl).0
      ∙ rw (
        read-value d i v more (shallow_elements d (suc i) a q h),
        (read_past d (rows_inside (suc d) v) more (deep_inside (suc d) v)).0,
        read_elements d (suc i) a q h,
      )

  pub read_fields : (d : ℕ) (a : Attributes) (q : List ValueRow) → Shallow d q → attributes_from d (attribute_rows d a ++ q) ≡ a
  read_fields d no_attribute q h = (read_end d q h).1
  read_fields d (attribute f v a) q h =
      let more : List ValueRow = attribute_rows d a ++ q in
      ap (attributes_from d) (rows_of_more d f v (attribute_rows d a) q)
      ∙ (read_here d (own_row d f v) (rows_inside (suc d) v ++ more) refl).1
      ∙ rw (
        read-value d f v more (shallow_fields d a q h),
        (read_past d (rows_inside (suc d) v) more (deep_inside (suc d) v)).1,
        read_fields d a q h,
      )

-- the run of a record's fields is read back
pub read_run : (d : ℕ) (f : Attributes) → attributes_from d (attribute_rows d f) ≡ f
read_run d f = ap (attributes_from d) (sym (append-nil (attribute_rows d f))) ∙ read_fields d f [] tt

-- The order of values does not turn on how deep they lie.

deepen_append : (a b : List ValueRow) → deepen (a ++ b) ≡ deepen a ++ deepen b
deepen_append [] b = refl
deepen_append (x ∷ a) b = ap (λ l. deeper x ∷ l) (deepen_append a b)

by_deepen : (x y : ValueRow) → by_row (deeper x) (deeper y) ≡ by_row x y
by_deepen x y = rw (leb-suc-suc (suc x.depth) y.depth, leb-suc-suc (suc y.depth) x.depth)

earlier_deepen : (a b : List ValueRow) → earlier_rows (deepen a) (deepen b) ≡ earlier_rows a b
unfolding earlier_rows
earlier_deepen a [] = refl
earlier_deepen [] (y ∷ b) = refl
earlier_deepen (x ∷ a) (y ∷ b) =
    ap (λ o. is_first o (earlier_rows (deepen a) (deepen b))) (by_deepen x y) ∙ ap (is_first (by_row x y)) (earlier_deepen a b)

mutual
  unfolding value_rows

  deepen_value : (d k : ℕ) (v : Value) → value_rows (suc d) k v ≡ deepen (value_rows d k v)
  deepen_value d k (plain n) = refl
  deepen_value d k (extension n) = refl
  deepen_value d k (entity_id n) = refl
  deepen_value d k (set_of a) = ap (λ l. value_row (suc d) k set_kind 0 ∷ l) (deepen_elements (suc d) 0 a)
  deepen_value d k (record_of a) = ap (λ l. value_row (suc d) k record_kind 0 ∷ l) (deepen_fields (suc d) a)

  deepen_elements : (d i : ℕ) (a : Elements) → element_rows (suc d) i a ≡ deepen (element_rows d i a)
  deepen_elements d i no_element = refl
  deepen_elements d i (element v a) =
      rw (deepen_append (value_rows d i v) (element_rows d (suc i) a), deepen_value d i v, deepen_elements d (suc i) a)

  deepen_fields : (d : ℕ) (a : Attributes) → attribute_rows (suc d) a ≡ deepen (attribute_rows d a)
  deepen_fields d no_attribute = refl
  deepen_fields d (attribute f v a) = rw (deepen_append (value_rows d f v) (attribute_rows d a), deepen_value d f v, deepen_fields d a)

earlier_at : (d : ℕ) (v w : Value) → earlier_rows (value_rows d 0 v) (value_rows d 0 w) ≡ earlier_rows (value_rows 0 0 v) (value_rows 0 0 w)
earlier_at zero v w = refl
earlier_at (suc d) v w =
    rw (deepen_value d 0 v, deepen_value d 0 w, earlier_deepen (value_rows d 0 v) (value_rows d 0 w)) (earlier_at d v w)

-- Where a value's rows end.

run_split :
    (d : ℕ) (p q : List ValueRow) → Deep (suc d) p → Shallow (suc d) q → (inside_value d (p ++ q) ≡ p) × (beyond_value d (p ++ q) ≡ q)
unfolding Deep inside_value beyond_value
run_split d [] [] h k = (refl, refl)
run_split d [] (y ∷ q) h k = let e = le-ltb d y.depth (omega arith) in (rw e, rw e)
run_split d (x ∷ p) q h k =
    let e = lt-ltb d x.depth h.0 in
    let more = run_split d p q h.1 k in
    (rw (e, more.0), rw (e, more.1))

-- what the test of an element says, where rows p are inside it and a set's elements follow
ahead_says :
    (x : ValueRow) (v : Value) (p : List ValueRow) (i : ℕ) (a : Elements) (q : List ValueRow)
    → value_rows x.depth 0 v ≡ value_row x.depth 0 x.kind x.number ∷ p
    → Deep (suc x.depth) p
    → Shallow x.depth q
    → let rows : List ValueRow = p ++ (element_rows x.depth i a ++ q) in
    (ahead_of x rows (beyond_value x.depth rows) ≡ true) ↔ Earlier v a
unfolding Earlier value_rows
ahead_says x v p i no_element q e deep low =
    (λ _. tt, λ _. rw (run_split x.depth p q deep (shallow_suc x.depth q low)).1 (go q low))
  where
    go : (q : List ValueRow) → Shallow x.depth q → ahead_of x (p ++ q) q ≡ true
    go [] low = refl
    go (y ∷ q) low = rw (ne_eqb x.depth y.depth (λ e. omega arith))
ahead_says x v p i (element w a) q e deep low =
    let d : ℕ = x.depth in
    let more : List ValueRow = element_rows d (suc i) a ++ q in
    let shallow : Shallow (suc d) more = shallow_elements d (suc i) a q low in
    let behind : List ValueRow = own_row d i w ∷ (rows_inside (suc d) w ++ more) in
    let split = run_split d p behind deep (omega arith) in
    let next = run_split d (rows_inside (suc d) w) more (deep_inside (suc d) w) shallow in
    let is : ahead_of x (p ++ behind) (beyond_value d (p ++ behind)) ≡ earlier_rows (value_rows 0 0 v) (value_rows 0 0 w) =
    rw (split.1, split.0, eq-eqb d d refl, next.0, ← e, ← rows-of d 0 w) (earlier_at d v w) in
    rw (rows_of_more d i w (element_rows d (suc i) a) q, is) (λ h. h, λ h. h)

-- A run that passes is what is read from it, level by level: the deepest level's rows come first.

-- a value's own row, and what is read below it
value_parts :
    (d k kind n : ℕ) (rows : List ValueRow)
    → kind ≤ 4
    → (3 ≤ kind → n ≡ 0)
    → value_rows d k (read_value d (value_row d k kind n) rows) ≡ value_row d k kind n ∷ parts (suc d) (level_below (value_row d k kind n)) rows
unfolding value_rows
value_parts d k zero n rows h z = refl
value_parts d k (suc zero) n rows h z = refl
value_parts d k (suc (suc zero)) n rows h z = refl
value_parts d k (suc (suc (suc zero))) n rows h z = rw (z (omega arith))
value_parts d k (suc (suc (suc (suc zero)))) n rows h z = rw (z (omega arith))
value_parts d k (suc (suc (suc (suc (suc kind))))) n rows h z = absurd (omega arith)

value_proper :
    (d k kind n : ℕ) (rows : List ValueRow)
    → kind ≤ 4
    → (kind < 3 → n < ids)
    → ProperParts (suc d) (level_below (value_row d k kind n)) rows
    → Proper (read_value d (value_row d k kind n) rows)
unfolding Proper
value_proper d k zero n rows h z p = z (omega arith)
value_proper d k (suc zero) n rows h z p = z (omega arith)
value_proper d k (suc (suc zero)) n rows h z p = z (omega arith)
value_proper d k (suc (suc (suc zero))) n rows h z p = p.1
value_proper d k (suc (suc (suc (suc zero)))) n rows h z p = p.1
value_proper d k (suc (suc (suc (suc (suc kind))))) n rows h z p = absurd (omega arith)

cond_either : (t u w : Bool) → cond t u w ≡ true → (t ≡ true → u ≡ true) × (t ≡ false → w ≡ true)
cond_either true u w h = (λ _. h, λ e. absurd (false≢true (sym e)))
cond_either false u w h = (λ e. absurd (false≢true e), λ _. h)

row_says : (x : ValueRow) → is_value_row x ≡ true → RowSays x
row_says x e =
    let both_rows = (and-eq-true_iff (leb x.kind record_kind) _).0 e in
    let more = (and-eq-true_iff (ltb x.key ids) _).0 both_rows.1 in
    let either = cond_either (ltb x.kind set_kind) (ltb x.number ids) (eqb x.number 0) more.1 in
    record {
      kinds = leb-true x.kind record_kind both_rows.0;
      keys = ltb-true x.key ids more.0;
      numbers = λ h. ltb-true x.number ids (either.0 (lt-ltb x.kind set_kind h));
      zeros = λ h. eqb-true x.number 0 (either.1 (le-ltb x.kind set_kind h));
    }

-- a row that comes first begins its level's rows, and nothing is read at the levels below
nothing_deeper :
    (d : ℕ) (levels : List Level) (x : ValueRow) (rows : List ValueRow)
    → x.depth < d
    → (parts d levels (x ∷ rows) ≡ []) × ProperParts d levels (x ∷ rows)
unfolding value_rows Proper
nothing_deeper d [] x rows h = (refl, tt)
nothing_deeper d (l ∷ levels) x rows h =
    let more = nothing_deeper (suc d) levels x rows (omega arith) in
    let none_here = go l.of_set in
    (rw (more.0, none_here.0), (more.1, none_here.1))
  where
    go : (t : Bool) → (group_rows t d l.least (x ∷ rows) ≡ []) × ProperGroup t d l.least (x ∷ rows)
    go true = (rw (read_above d x rows h).0, rw (read_above d x rows h).0 tt)
    go false = (rw (read_above d x rows h).1, rw (read_above d x rows h).1 tt)

deep_group : (t : Bool) (e d n : ℕ) (rows : List ValueRow) → e ≤ d → Deep e (group_rows t d n rows)
deep_group true e d n rows h = deep_elements e d n (elements_from d rows) h
deep_group false e d n rows h = deep_fields e d (attributes_from d rows) h

deep_parts : (e d : ℕ) (levels : List Level) (rows : List ValueRow) → e ≤ d → Deep e (parts d levels rows)
unfolding Deep
deep_parts e d [] rows h = tt
deep_parts e d (l ∷ levels) rows h =
    deep_append e (parts (suc d) levels rows) (group_rows l.of_set d l.least rows)
    (deep_parts e (suc d) levels rows (omega arith))
    (deep_group l.of_set e d l.least rows h)

shallow_group :
    (t : Bool) (d n : ℕ) (rows low : List ValueRow) → Shallow d low → Shallow (suc d) (group_rows t d n rows ++ low)
shallow_group true d n rows low h = shallow_elements d n (elements_from d rows) low h
shallow_group false d n rows low h = shallow_fields d (attributes_from d rows) low h

group_here :
    (t : Bool) (n : ℕ) (x : ValueRow) (rows low : List ValueRow)
    → RowSays x
    → fits_level (level t n) x ≡ true
    → in_turn (level t n) x rows ≡ true
    → (group_rows t x.depth n (x ∷ rows)
    ≡ x ∷ (parts (suc x.depth) (level_below x) rows ++ group_rows t x.depth (suc x.key) rows))
    × (Shallow x.depth low
    → rows ≡ (parts (suc x.depth) (level_below x) rows ++ group_rows t x.depth (suc x.key) rows) ++ low
    → ProperParts (suc x.depth) (level_below x) rows
    → ProperGroup t x.depth (suc x.key) rows
    → ProperGroup t x.depth n (x ∷ rows))
unfolding value_rows Proper
group_here true n x rows low says e turn =
    let d : ℕ = x.depth in
    let at : x.key ≡ n = eqb-true x.key n e in
    let here = (read_here d x rows refl).0 in
    let own = value_parts d x.key x.kind x.number rows says.kinds says.zeros in
    let p : List ValueRow = parts (suc d) (level_below x) rows in
    let g : List ValueRow = element_rows d (suc x.key) (elements_from d rows) in (
      rw (here, ← at, own),
      λ shallow is inner more.
          let split : rows ≡ p ++ (g ++ low) = is ∙ append_assoc p g low in
          let ahead : Earlier (read_value d x rows) (elements_from d rows) =
          (ahead_says x (read_value d x rows) p (suc x.key) (elements_from d rows) low
          (value_parts d 0 x.kind x.number rows says.kinds says.zeros)
          (deep_parts (suc d) (suc d) (level_below x) rows (omega arith))
          shallow).0
          (sym (ap (λ r. ahead_of x r (beyond_value d r)) split) ∙ turn) in
          rw (here, ← at)
          (says.keys, value_proper d x.key x.kind x.number rows says.kinds says.numbers inner, ahead, more),
    )
group_here false n x rows low says e turn =
    let at : n ≤ x.key = leb-true n x.key e in
    let here = (read_here x.depth x rows refl).1 in
    let own = value_parts x.depth x.key x.kind x.number rows says.kinds says.zeros in (
      rw (here, own),
      λ shallow is inner more. rw here
          (at, says.keys, value_proper x.depth x.key x.kind x.number rows says.kinds says.numbers inner, more),
    )

group_above :
    (t : Bool) (d n : ℕ) (x : ValueRow) (rows : List ValueRow)
    → d < x.depth
    → (group_rows t d n (x ∷ rows) ≡ group_rows t d n rows) × (ProperGroup t d n rows → ProperGroup t d n (x ∷ rows))
group_above true d n x rows h = let e = (read_below d x rows h).0 in (rw e, λ p. rw e p)
group_above false d n x rows h = let e = (read_below d x rows h).1 in (rw e, λ p. rw e p)

parts_step :
    (d place : ℕ) (levels : List Level) (x : ValueRow) (rows low : List ValueRow)
    → x.depth ≡ d + place
    → place < length levels
    → RowSays x
    → fits_level (get_or levels place (level false 0)) x ≡ true
    → in_turn (get_or levels place (level false 0)) x rows ≡ true
    → (parts d levels (x ∷ rows) ≡ x ∷ parts d (after place levels x) rows)
    × (Shallow d low
    → rows ≡ parts d (after place levels x) rows ++ low
    → ProperParts d (after place levels x) rows
    → ProperParts d levels (x ∷ rows))
parts_step d place [] x rows low e h says f turn = absurd (omega arith)
parts_step d zero (l ∷ levels) x rows low e h says f turn =
    let same : d ≡ x.depth = omega arith in
    let more = nothing_deeper (suc d) levels x rows (omega arith) in
    let here = group_here l.of_set l.least x rows low says f turn in (
      rw (more.0, same, here.0),
      λ shallow is p.
          (more.1, rw same (here.1 (rw same at shallow) (rw same at is) (rw same at p.0) (rw same at p.1))),
    )
parts_step d (suc place) (l ∷ levels) x rows low e h says f turn =
    let g : List ValueRow = group_rows l.of_set d l.least rows in
    let more = parts_step (suc d) place levels x rows (g ++ low) (omega arith) (omega arith) says f turn in
    let here = group_above l.of_set d l.least x rows (omega arith) in (
      rw (more.0, here.0),
      λ shallow is p. (
        more.1
            (shallow_group l.of_set d l.least rows low shallow)
            (is ∙ append_assoc (parts (suc d) (after place levels x) rows) g low)
            p.0,
        here.1 p.1,
      ),
    )

parts_none : (d : ℕ) (levels : List Level) → (parts d levels [] ≡ []) × ProperParts d levels []
unfolding elements_from value_rows Proper
parts_none d [] = (refl, tt)
parts_none d (l ∷ levels) = go l.of_set (parts_none (suc d) levels)
  where
    go :
        (t : Bool)
        → (parts (suc d) levels [] ≡ []) × ProperParts (suc d) levels []
        → (parts (suc d) levels [] ++ group_rows t d l.least [] ≡ []) × (ProperParts (suc d) levels [] × ProperGroup t d l.least [])
    go true more = (rw more.0, (more.1, tt))
    go false more = (rw more.0, (more.1, tt))

comes_says :
    (d : ℕ) (levels : List Level) (x : ValueRow) (rows : List ValueRow)
    → is_value_row x && comes d levels x rows ≡ true
    → ComesSays d levels x rows
comes_says d levels x rows e =
    let one = (and-eq-true_iff (is_value_row x) _).0 e in
    let two = (and-eq-true_iff (leb d x.depth) _).0 one.1 in
    let three = (and-eq-true_iff (ltb (x.depth - d) (length levels)) _).0 two.1 in
    let four = (and-eq-true_iff (fits_level (level_at d levels x.depth) x) _).0 three.1 in
    let low = leb-true d x.depth two.0 in
    record {
      says = row_says x one.0;
      deep = omega arith;
      short = ltb-true (x.depth - d) (length levels) three.0;
      fit = four.0;
      turn = four.1;
    }

passes_parts :
    (d : ℕ) (levels : List Level) (rows : List ValueRow)
    → passes d levels rows ≡ true
    → (parts d levels rows ≡ rows) × ProperParts d levels rows
unfolding passes
passes_parts d levels [] h = parts_none d levels
passes_parts d levels (x ∷ rows) h =
    let tests = (cond-true (is_value_row x && comes d levels x rows) (passes d (levels_after d levels x) rows)).0 h in
    let c = comes_says d levels x rows tests.0 in
    let more = passes_parts d (levels_after d levels x) rows tests.1 in
    let step = parts_step d (x.depth - d) levels x rows [] c.deep c.short c.says c.fit c.turn in
    (step.0 ∙ ap (λ l. x ∷ l) more.0, step.1 tt (sym more.0 ∙ sym (append-nil _)) more.1)

-- names that ascend from a least one ascend
proper_past : (f n : ℕ) (a : Attributes) → f < n → ProperFields n a → Past f a
unfolding Proper Past
proper_past f n no_attribute h p = tt
proper_past f n (attribute g v a) h p = (omega arith, proper_past f (suc g) a (omega arith) p.3)

mutual
  unfolding Proper Ascending

  proper_value : (v : Value) → Proper v → AscendingIn v
  proper_value (plain n) p = tt
  proper_value (extension n) p = tt
  proper_value (entity_id n) p = tt
  proper_value (set_of a) p = tt
  proper_value (record_of a) p = proper_ascending 0 a p

  pub proper_ascending : (n : ℕ) (a : Attributes) → ProperFields n a → Ascending a
  proper_ascending n no_attribute p = tt
  proper_ascending n (attribute f v a) p =
      (proper_value v p.2, proper_past f (suc f) a (omega arith) p.3, proper_ascending (suc f) a p.3)

-- A run that passes is the run of the fields that are read from it, and they are proper, so their names ascend.
pub lawful_read :
    (rows : List ValueRow)
    → lawful_value_rows rows ≡ true
    → (attribute_rows 1 (attributes_from 1 rows) ≡ rows) × ProperFields 0 (attributes_from 1 rows) × Ascending (attributes_from 1 rows)
lawful_read rows h =
    let both_rows = passes_parts 1 (level false 0 ∷ []) rows h in
    (both_rows.0, both_rows.1.1, proper_ascending 0 (attributes_from 1 rows) both_rows.1.1)

-- The other way: the rows of proper fields pass.

-- a row that comes at the level behind others
pass_row :
    (base : ℕ) (above post : List Level) (l : Level) (x : ValueRow) (rows : List ValueRow)
    → x.depth ≡ base + length above
    → is_value_row x ≡ true
    → fits_level l x ≡ true
    → in_turn l x rows ≡ true
    → passes base (above ++ (level l.of_set (suc x.key) ∷ level_below x)) rows ≡ true
    → passes base (above ++ (l ∷ post)) (x ∷ rows) ≡ true
unfolding passes
pass_row base above post l x rows deep is fit turn rest =
    let place : x.depth - base ≡ length above = omega arith in
    let long = length-append above (l ∷ post) in
    rw (
      place,
      get_or_at above l post (level false 0) (length above) refl,
      take_at above (l ∷ post) (length above) refl,
      is,
      le-leb base x.depth (omega arith),
      lt-ltb (length above) (length (above ++ (l ∷ post))) (omega arith),
      fit,
      turn,
    )
    rest

-- a value's own row
row_passes : (d k : ℕ) (v : Value) → k < ids → Proper v → is_value_row (own_row d k v) ≡ true
unfolding Proper
row_passes d k (plain n) h p = rw (lt-ltb k ids h, lt-ltb n ids p)
row_passes d k (extension n) h p = rw (lt-ltb k ids h, lt-ltb n ids p)
row_passes d k (entity_id n) h p = rw (lt-ltb k ids h, lt-ltb n ids p)
row_passes d k (set_of a) h p = rw (lt-ltb k ids h)
row_passes d k (record_of a) h p = rw (lt-ltb k ids h)

mutual
  unfolding Proper value_rows

  pass_inside :
      (base d k : ℕ) (above : List Level) (v : Value) (q : List ValueRow)
      → suc d ≡ base + length above
      → Proper v
      → Shallow (suc d) q
      → Goes base above q
      → passes base (above ++ level_below (own_row d k v)) (rows_inside (suc d) v ++ q) ≡ true
  pass_inside base d k above (plain n) q deep p low goes = goes []
  pass_inside base d k above (extension n) q deep p low goes = goes []
  pass_inside base d k above (entity_id n) q deep p low goes = goes []
  pass_inside base d k above (set_of a) q deep p low goes =
      pass_elements base (suc d) 0 above [] a q deep p low goes
  pass_inside base d k above (record_of a) q deep p low goes =
      pass_fields base (suc d) 0 above [] a q deep p low goes

  pass_elements :
      (base d i : ℕ) (above post : List Level) (a : Elements) (q : List ValueRow)
      → d ≡ base + length above
      → ProperElements i a
      → Shallow d q
      → Goes base above q
      → passes base (above ++ (level true i ∷ post)) (element_rows d i a ++ q) ≡ true
  pass_elements base d i above post no_element q deep p low goes = goes (level true i ∷ post)
  pass_elements base d i above post (element v a) q deep p low goes =
      let rest : List ValueRow = element_rows d (suc i) a ++ q in
      let more : Goes base (above ++ (level true (suc i) ∷ [])) rest =
      λ post. rw (append_assoc above (level true (suc i) ∷ []) post)
      (pass_elements base d (suc i) above post a q deep p.3 low goes) in
      let inner = pass_inside base d i (above ++ (level true (suc i) ∷ [])) v rest
      (rw (length-append above (level true (suc i) ∷ [])) (omega arith)) p.1 (shallow_elements d (suc i) a q low) more in
      rw (rows_of_more d i v (element_rows d (suc i) a) q)
      (pass_row base above post (level true i) (own_row d i v) (rows_inside (suc d) v ++ rest) deep
      (row_passes d i v p.0 p.1)
      (eq-eqb i i refl)
      ((ahead_says (own_row d i v) v (rows_inside (suc d) v) (suc i) a q (rows-of d 0 v) (deep_inside (suc d) v) low).1 p.2)
      (rw (append_assoc above (level true (suc i) ∷ []) (level_below (own_row d i v))) at inner))

  pass_fields :
      (base d n : ℕ) (above post : List Level) (a : Attributes) (q : List ValueRow)
      → d ≡ base + length above
      → ProperFields n a
      → Shallow d q
      → Goes base above q
      → passes base (above ++ (level false n ∷ post)) (attribute_rows d a ++ q) ≡ true
  pass_fields base d n above post no_attribute q deep p low goes = goes (level false n ∷ post)
  pass_fields base d n above post (attribute f v a) q deep p low goes =
      let rest : List ValueRow = attribute_rows d a ++ q in
      let more : Goes base (above ++ (level false (suc f) ∷ [])) rest =
      λ post. rw (append_assoc above (level false (suc f) ∷ []) post)
      (pass_fields base d (suc f) above post a q deep p.3 low goes) in
      let inner = pass_inside base d f (above ++ (level false (suc f) ∷ [])) v rest
      (rw (length-append above (level false (suc f) ∷ [])) (omega arith)) p.2 (shallow_fields d a q low) more in
      rw (rows_of_more d f v (attribute_rows d a) q)
      (pass_row base above post (level false n) (own_row d f v) (rows_inside (suc d) v ++ rest) deep
      (row_passes d f v p.1 p.2)
      (le-leb n f p.0)
      refl
      (rw (append_assoc above (level false (suc f) ∷ []) (level_below (own_row d f v))) at inner))

pub proper_passes : (f : Attributes) → ProperFields 0 f → lawful_value_rows (attribute_rows 1 f) ≡ true
unfolding passes
proper_passes f p =
    rw append-nil at (pass_fields 1 1 0 [] [] f [] refl p tt (λ post. refl))

-- a run passes exactly where it is the run of proper fields
pub lawful_rows :
    (rows : List ValueRow) → (lawful_value_rows rows ≡ true) ↔ ((f : Attributes) × ProperFields 0 f × (rows ≡ attribute_rows 1 f))
lawful_rows rows = (
  λ h. let read = lawful_read rows h in (attributes_from 1 rows, read.1, sym read.0),
  λ (f, p, e). rw e (proper_passes f p),
)

-- 'loaded values: each attribute, record field and set element at any depth' are the rows
pub lawful_rows_count : (rows : List ValueRow) → lawful_value_rows rows ≡ true → length rows ≡ values_in_attributes (attributes_from 1 rows)
lawful_rows_count rows h = sym (ap length (lawful_read rows h).0) ∙ count_fields 1 (attributes_from 1 rows)

-- What is merged is proper, so that the merge of two runs that pass is a run that passes.

same_stays : (v w : Value) → Proper v → Every Proper (if_same v w)
same_stays v w h = by_test (same_value v w) (λ t. rw t h) (λ t. rw t tt)

leaf_stays : (v : Value) → record_in v ≡ none → ValueStays v
leaf_stays v leaf w hv hw = rw (merged_leaf v w leaf) (same_stays v w hv)

record_stays : (p : Attributes) → FieldsStay p → ValueStays (record_of p)
unfolding merged_values Proper
record_stays p on-fields (plain n) hv hw = same_stays (record_of p) (plain n) hv
record_stays p on-fields (extension n) hv hw = same_stays (record_of p) (extension n) hv
record_stays p on-fields (entity_id n) hv hw = same_stays (record_of p) (entity_id n) hv
record_stays p on-fields (set_of e) hv hw = same_stays (record_of p) (set_of e) hv
record_stays p on-fields (record_of q) hv hw = go (merged_attributes p q) (on-fields q 0 hv hw)
  where
    go : (o : Option Attributes) → Every (ProperFields 0) o → Every Proper (o >>= (λ m. some (record_of m)))
    go none h = tt
    go (some m) h = h

field_stays : (f : ℕ) (v : Value) (p : Attributes) → ValueStays v → FieldsStay p → FieldsStay (attribute f v p)
unfolding Proper Past
field_stays f v p on_value on-fields no_attribute n hp hq = rw (fields_no_right (attribute f v p)) hp
field_stays f v p on_value on-fields (attribute g w q) n hp hq =
    compared f g
    (λ less.
    rw (fields_left f v p (attribute g w q) (less, proper_past f (suc g) q (omega arith) hq.3))
    (left f v hp.0 hp.1 hp.2 (merged_attributes p (attribute g w q))
    (on-fields (attribute g w q) (suc f) hp.3 (less, hq.1, hq.2, hq.3))))
    (λ not-less.
    compared g f
    (λ less.
    rw (fields_right f g v w p q less (proper_past g (suc g) q (omega arith) hq.3))
    (left g w hq.0 hq.1 hq.2 (merged_attributes (attribute f v p) q)
    (field_stays f v p on_value on-fields q (suc g) (less, hp.1, hp.2, hp.3) hq.3)))
    (λ not_more.
    let names : g ≡ f = omega arith in
    let more : ProperFields (suc f) q = rw names at hq.3 in
    rw names
    (rw (fields_both f v w p q (proper_past f (suc f) q (omega arith) more))
    (in_both (merged_values v w) (merged_attributes p q) (on_value w hp.2 hq.2) (on-fields q (suc f) hp.3 more)))))
  where
    left :
        (k : ℕ) (u : Value)
        → n ≤ k
        → k < ids
        → Proper u
        → (o : Option Attributes)
        → Every (ProperFields (suc k)) o
        → Every (ProperFields n) (with_attribute k (some u) o)
    left k u low high hu none h = tt
    left k u low high hu (some m) h = (low, high, hu, h)

    in_both :
        (u : Option Value) (o : Option Attributes)
        → Every Proper u
        → Every (ProperFields (suc f)) o
        → Every (ProperFields n) (with_attribute f u o)
    in_both none o hu h = tt
    in_both (some u) none hu h = tt
    in_both (some u) (some m) hu h = (hp.0, hp.1, hu, h)

no_left_stays : FieldsStay no_attribute
no_left_stays q n hp hq = rw (fields_no_left q (proper_ascending n q hq)) hq

mutual
  value_stays : (v : Value) → ValueStays v
  value_stays (plain n) = leaf_stays (plain n) refl
  value_stays (extension n) = leaf_stays (extension n) refl
  value_stays (entity_id n) = leaf_stays (entity_id n) refl
  value_stays (set_of e) = leaf_stays (set_of e) refl
  value_stays (record_of p) = record_stays p (fields_stay p)

  fields_stay : (p : Attributes) → FieldsStay p
  fields_stay no_attribute = no_left_stays
  fields_stay (attribute f v p) = field_stays f v p (value_stays v) (fields_stay p)

pub merged_proper : (a b m : Attributes) → ProperFields 0 a → ProperFields 0 b → merged_attributes a b ≡ some m → ProperFields 0 m
merged_proper a b m ha hb e = rw e at (fields_stay a b 0 ha hb)

-- the merge of two runs that pass, on rows
pub lawful_merge :
    (a b : List ValueRow)
    → lawful_value_rows a ≡ true
    → lawful_value_rows b ≡ true
    → merge_rows none a b ≡ (merged_attributes (attributes_from 1 a) (attributes_from 1 b) >>= (λ m. some (attribute_rows 1 m)))
lawful_merge a b ha hb =
    let read_a = lawful_read a ha in
    let read-b = lawful_read b hb in
    ap (λ r. merge_rows none r b) (sym read_a.0)
    ∙ ap (merge_rows none (attribute_rows 1 (attributes_from 1 a))) (sym read-b.0)
    ∙ one_pass 1 (attributes_from 1 a) (attributes_from 1 b) read_a.2 read-b.2

pub lawful_merged :
    (a b m : List ValueRow)
    → lawful_value_rows a ≡ true
    → lawful_value_rows b ≡ true
    → merge_rows none a b ≡ some m
    → (lawful_value_rows m ≡ true) × (merged_attributes (attributes_from 1 a) (attributes_from 1 b) ≡ some (attributes_from 1 m))
lawful_merged a b m ha hb e =
    go (merged_attributes (attributes_from 1 a) (attributes_from 1 b)) refl (sym (lawful_merge a b ha hb) ∙ e)
  where
    go :
        (o : Option Attributes)
        → merged_attributes (attributes_from 1 a) (attributes_from 1 b) ≡ o
        → (o >>= (λ f. some (attribute_rows 1 f))) ≡ some m
        → (lawful_value_rows m ≡ true) × (o ≡ some (attributes_from 1 m))
    go none known is = absurd (none-ne-some m is)
    go (some f) known is =
        let same : attribute_rows 1 f ≡ m = cc in
        let proper = merged_proper (attributes_from 1 a) (attributes_from 1 b) f (lawful_read a ha).1 (lawful_read b hb).1 known in
        (rw (← same) (proper_passes f proper), rw (← same) (ap some (sym (read_run 1 f))))
