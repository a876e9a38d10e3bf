-- Merging: neither the grouping of answers nor their order nor a repeat matters, and what some answers come to merges with one more
-- exactly where each of them does. The laws on answers are at the end; what is above them is their proof.
use Rattle.std.specs.Prelude.{ℕ, zero, suc, ◌+◌, ◌≤◌, ◌<◌, ◌≡◌, refl, ◌↔◌, ◌≢◌, Bool, true, false, cond, ◌&&◌, eqb}
use Rattle.std.proofs.Common.{arith, le_refl, sym, ap, ◌∙◌, true≢false, eqb-true}
use Rattle.std.proofs.Math.Bool.{and-true, and-false, and_assoc, and-eq-true_iff}
use Rattle.std.proofs.lemmas.Bool.{false≢true, eqb-false}
use mathlib.Core.List.Memᴰ.{head as here}
use mathlib.Core.List.Memᴰ.{not-nil as none_in_empty}
use mathlib.Core.List.Memᴰ.{tail as later}
use mathlib.Core.List.{
  List,
  [],
  ◌∷◌,
  ◌++◌,
  Memᴰ as Member,
}
use Rattle.std.proofs.Math.Option.{Option, none, some, none-ne-some, some-ne-none, some-injective}
use Rattle.rules.specs.Facts.{by_test, by_option, compared, cond-some}
use Rattle.rules.specs.Tries.{same_list}
use Rattle.rules.proofs.PlaceLaws.{same-list}
use Rattle.rules.specs.Listing.{◌>>=◌}
use Rattle.rules.proofs.StepLaws.{Each}
use Rattle.rules.specs.Values.{
  Value,
  plain,
  extension,
  entity_id,
  set_of,
  record_of,
  Attributes,
  no_attribute,
  attribute,
  Entity,
  record_in,
  spelled,
  same_value,
  with_attribute,
  put_attribute,
  merged_values,
  merged_attributes,
  merged_entities,
  values_in,
  values_in_attributes,
}
use Rattle.rules.specs.ValueRows.{attribute_rows, merge_rows, Past, AscendingIn, Ascending}
use Rattle.rules.proofs.ValueRowLaws.{
  bind_some,
  past_trans,
  fields_left,
  fields_right,
  fields_both,
  fields_no_left,
  same-value,
  merged_leaf,
  one_pass,
  merged_ascends,
  fields_self,
  swapped,
  Every,
}
use Rattle.rules.specs.ValueRowTests.{ProperFields}
use Rattle.rules.proofs.ValueRowTestLaws.{proper_ascending}
pub use Rattle.rules.specs.MergeLaws.{there, Three, Kind, leaf, fields, FieldsBelow, front, merged_field, fronted, field_size, Split, at_name, GoodEntity, entity, MergedFrom, Merges, AddsNothing}
unfoldable pub use Rattle.rules.specs.MergeLaws.{IdsFrom, merged_all, merged_of, each_merges}

-- Three that are merged: grouped either way they give the same, and they merge exactly where each two of them do.

bind_none : {A : Type 0} (B : Type 0) (o : Option A) → ◌≡◌ {A = Option B} (o >>= (λ a. none)) none
bind_none B none = refl
bind_none B (some a) = refl

-- what holds of a merge holds of it under a name
module _ {A B : Type 0} (k : A → B) (under : A → A → Option A) (over : B → B → Option B) where
  abbrev Named : Type 0
  Named = (a b : A) → over (k a) (k b) ≡ (under a b >>= (λ m. some (k m)))

  named_there : (o : Option A) → there (o >>= (λ m. some (k m))) ≡ there o
  named_there none = refl
  named_there (some m) = refl

  named_left :
      Named
      → (c : A) (o : Option A)
      → ((o >>= (λ m. some (k m))) >>= (λ m. over m (k c))) ≡ ((o >>= (λ m. under m c)) >>= (λ m. some (k m)))
  named_left named c none = refl
  named_left named c (some m) = named m c

  named_right :
      Named
      → (a : A) (o : Option A)
      → ((o >>= (λ m. some (k m))) >>= (λ m. over (k a) m)) ≡ ((o >>= (λ m. under a m)) >>= (λ m. some (k m)))
  named_right named a none = refl
  named_right named a (some m) = named a m

  three_named : Named → (a b c : A) → Three under a b c → Three over (k a) (k b) (k c)
  three_named named a b c h =
      rw (named a b, named a c, named b c)
      (rw (named_left named c (under a b), named_right named a (under b c), h.0) (
        refl,
        named_there (under b c >>= (λ m. under a m)) ∙ sym (ap there h.0) ∙ h.1
            ∙ sym (rw (named_there (under a b), named_there (under a c), named_there (under b c))),
      ))

-- Values. A value that is no record merges only with its equal, and never with a record.

kind : (v : Value) → Kind v
kind (plain n) = leaf refl
kind (extension n) = leaf refl
kind (entity_id n) = leaf refl
kind (set_of e) = leaf refl
kind (record_of a) = fields a

leaf_same : (v : Value) → record_in v ≡ none → merged_values v v ≡ some v
leaf_same v h = merged_leaf v v h ∙ rw ((same-value v v).1 refl)

leaf_other : (v w : Value) → record_in v ≡ none → same_value v w ≡ false → merged_values v w ≡ none
leaf_other v w h e = merged_leaf v w h ∙ rw e

leaf_fields : (v : Value) (b : Attributes) → record_in v ≡ none → merged_values v (record_of b) ≡ none
unfolding merged_values
leaf_fields v b h = rw h

fields_leaf : (a : Attributes) (w : Value) → record_in w ≡ none → merged_values (record_of a) w ≡ none
unfolding merged_values spelled same_list
fields_leaf a (plain n) h = refl
fields_leaf a (extension n) h = refl
fields_leaf a (entity_id n) h = refl
fields_leaf a (set_of e) h = refl
fields_leaf a (record_of b) h = let z : ◌≡◌ {A = ℕ} 0 1 = cc in absurd (omega arith)

fields_fields : (a b : Attributes) → merged_values (record_of a) (record_of b) ≡ (merged_attributes a b >>= (λ m. some (record_of m)))
unfolding merged_values
fields_fields a b = refl

leaves : (v w u : Value) → record_in v ≡ none → record_in w ≡ none → record_in u ≡ none → Three merged_values v w u
leaves v w u hv hw hu =
    by_test (same_value v w)
    (λ s.
    by_test (same_value v u)
    (λ t. rw (← (same-value v w).0 s, ← (same-value v u).0 t, leaf_same v hv, leaf_same v hv) (refl, refl))
    (λ t. rw (← (same-value v w).0 s, leaf_same v hv, leaf_other v u hv t) (refl, refl)))
    (λ s.
    by_test (same_value w u)
    (λ t. rw (← (same-value w u).0 t, leaf_same w hw, leaf_other v w hv s) (refl, refl))
    (λ t. rw (leaf_other w u hw t, leaf_other v w hv s) (refl, refl)))

-- fields that are merged stay fields
fields_leaf_after :
    (u : Value) (o : Option Attributes) → record_in u ≡ none → ((o >>= (λ m. some (record_of m))) >>= (λ m. merged_values m u)) ≡ none
fields_leaf_after u none h = refl
fields_leaf_after u (some m) h = fields_leaf m u h

leaf_fields_after :
    (v : Value) (o : Option Attributes) → record_in v ≡ none → ((o >>= (λ m. some (record_of m))) >>= (λ m. merged_values v m)) ≡ none
leaf_fields_after v none h = refl
leaf_fields_after v (some m) h = leaf_fields v m h

three_values :
    (n : ℕ) (v w u : Value)
    → FieldsBelow n
    → values_in v + values_in w + values_in u < n
    → AscendingIn v
    → AscendingIn w
    → AscendingIn u
    → Three merged_values v w u
unfolding values_in AscendingIn
three_values n v w u on-fields = go v w u (kind v) (kind w) (kind u)
  where
    go :
        (v w u : Value)
        → Kind v
        → Kind w
        → Kind u
        → values_in v + values_in w + values_in u < n
        → AscendingIn v
        → AscendingIn w
        → AscendingIn u
        → Three merged_values v w u
    go v w u (leaf hv) (leaf hw) (leaf hu) size sv sw su = leaves v w u hv hw hu
    go v w u (leaf hv) (leaf hw) (fields c) size sv sw su =
        by_test (same_value v w)
        (λ s. rw (← (same-value v w).0 s, leaf_same v hv, leaf_fields v c hv) (refl, refl))
        (λ s. rw (leaf_other v w hv s, leaf_fields w c hw) (refl, refl))
    go v w u (leaf hv) (fields b) (leaf hu) size sv sw su = rw (leaf_fields v b hv, fields_leaf b u hu) (refl, refl)
    go v w u (leaf hv) (fields b) (fields c) size sv sw su =
        rw (leaf_fields v b hv, fields_fields b c, leaf_fields_after v (merged_attributes b c) hv) (refl, refl)
    go v w u (fields a) (leaf hw) (leaf hu) size sv sw su =
        by_test (same_value w u)
        (λ s. rw (← (same-value w u).0 s, leaf_same w hw, fields_leaf a w hw) (refl, refl))
        (λ s. rw (leaf_other w u hw s, fields_leaf a w hw) (refl, refl))
    go v w u (fields a) (leaf hw) (fields c) size sv sw su = rw (fields_leaf a w hw, leaf_fields w c hw) (refl, refl)
    go v w u (fields a) (fields b) (leaf hu) size sv sw su =
        rw (fields_leaf b u hu, fields_leaf a u hu, fields_fields a b, fields_leaf_after u (merged_attributes a b) hu)
        (refl, sym (and-false (there (merged_attributes a b >>= (λ m. some (record_of m))))))
    go v w u (fields a) (fields b) (fields c) size sv sw su =
        three_named record_of merged_attributes merged_values fields_fields a b c (on-fields a b c size sv sw su)

-- Fields. At a name that none of the three goes below, each has a field or none, and the rest is past it.

there_fronted : (f : ℕ) (o : Option (Option Value)) (r : Option Attributes) → there (fronted f o r) ≡ (there o && there r)
there_fronted f none r = refl
there_fronted f (some v) none = refl
there_fronted f (some v) (some m) = refl

-- a field of the right side alone
fields-behind :
    (f : ℕ) (w : Value) (a b : Attributes)
    → Past f a
    → Past f b
    → merged_attributes a (attribute f w b) ≡ with_attribute f (some w) (merged_attributes a b)
unfolding merged_attributes put_attribute Past
fields-behind f w no_attribute b ha hb = fields_left f w no_attribute b hb
fields-behind f w (attribute g v a) b ha hb = fields_right g f v w a b ha.0 hb

front_merged :
    (f : ℕ) (v w : Option Value) (a b : Attributes)
    → Past f a
    → Past f b
    → merged_attributes (front f v a) (front f w b) ≡ fronted f (merged_field v w) (merged_attributes a b)
front_merged f none none a b ha hb = sym (bind_some (merged_attributes a b))
front_merged f none (some w) a b ha hb = fields-behind f w a b ha hb
front_merged f (some v) none a b ha hb = fields_left f v a b hb
front_merged f (some v) (some w) a b ha hb = fields_both f v w a b hb ∙ go (merged_values v w)
  where
    go : (o : Option Value) → with_attribute f o (merged_attributes a b) ≡ fronted f (o >>= (λ m. some (some m))) (merged_attributes a b)
    go none = refl
    go (some m) = refl

-- what is merged is past the name too
past_merged : (f : ℕ) (a b : Attributes) → Ascending a → Ascending b → Past f a → Past f b → Every (Past f) (merged_attributes a b)
unfolding Ascending
past_merged f a b sa sb ha hb =
    by_option (merged_attributes a b)
    (λ e. rw e tt)
    (λ m e.
    rw e
    (merged_ascends (attribute f (plain 0) a) b (attribute f (plain 0) m) (tt, ha, sa) sb (fields_left f (plain 0) a b hb ∙ rw e)).1)

module _ (f : ℕ) (v w u : Option Value) (a b c : Attributes) (ha : Past f a) (hb : Past f b) (hc : Past f c) where
  front_left :
      (o : Option (Option Value)) (r : Option Attributes)
      → Every (Past f) r
      → (fronted f o r >>= (λ m. merged_attributes m (front f u c)))
      ≡ fronted f (o >>= (λ m. merged_field m u)) (r >>= (λ m. merged_attributes m c))
  front_left none r h = refl
  front_left (some o) none h = sym (bind_none Attributes (merged_field o u))
  front_left (some o) (some m) h = front_merged f o u m c h hc

  front_right :
      (o : Option (Option Value)) (r : Option Attributes)
      → Every (Past f) r
      → (fronted f o r >>= (λ m. merged_attributes (front f v a) m))
      ≡ fronted f (o >>= (λ m. merged_field v m)) (r >>= (λ m. merged_attributes a m))
  front_right none r h = refl
  front_right (some o) none h = sym (bind_none Attributes (merged_field v o))
  front_right (some o) (some m) h = front_merged f v o a m ha h

-- tests that are joined in another order
in_pairs : (p q r s t u : Bool) → ((p && (q && r)) && (s && (t && u))) ≡ ((p && s) && ((q && t) && (r && u)))
in_pairs false q r s t u = refl
in_pairs true false r s t u = sym (and-false s)
in_pairs true true false false t u = refl
in_pairs true true false true t u = sym (and-false t)
in_pairs true true true s t u = refl

three_front :
    (f : ℕ) (v w u : Option Value) (a b c : Attributes)
    → Past f a
    → Past f b
    → Past f c
    → Ascending a
    → Ascending b
    → Ascending c
    → Three merged_field v w u
    → Three merged_attributes a b c
    → Three merged_attributes (front f v a) (front f w b) (front f u c)
three_front f v w u a b c ha hb hc sa sb sc on-field on-rest =
    let left = front_left f v w u a b c ha hb hc (merged_field v w) (merged_attributes a b) (past_merged f a b sa sb ha hb) in
    let right = front_right f v w u a b c ha hb hc (merged_field w u) (merged_attributes b c) (past_merged f b c sb sc hb hc) in
    rw (front_merged f v w a b ha hb, front_merged f v u a c ha hc, front_merged f w u b c hb hc) (
      left ∙ rw (on-field.0, on-rest.0) (sym right),
      ap there left
          ∙ there_fronted f (merged_field v w >>= (λ m. merged_field m u)) (merged_attributes a b >>= (λ m. merged_attributes m c))
          ∙ rw (on-field.1, on-rest.1)
          (in_pairs
          (there (merged_field v w)) (there (merged_field v u)) (there (merged_field w u))
          (there (merged_attributes a b)) (there (merged_attributes a c)) (there (merged_attributes b c))
          ∙ rw (
            there_fronted f (merged_field v w) (merged_attributes a b),
            there_fronted f (merged_field v u) (merged_attributes a c),
            there_fronted f (merged_field w u) (merged_attributes b c),
          )),
    )

size_front : (f : ℕ) (v : Option Value) (a : Attributes) → values_in_attributes (front f v a) ≡ field_size v + values_in_attributes a
unfolding values_in_attributes
size_front f none a = omega arith
size_front f (some v) a = refl

three_field :
    (n : ℕ) (v w u : Option Value)
    → FieldsBelow n
    → field_size v + field_size w + field_size u < suc n
    → Every AscendingIn v
    → Every AscendingIn w
    → Every AscendingIn u
    → Three merged_field v w u
three_field n none w u on-fields size sv sw su = (sym (bind_some (merged_field w u)), refl)
three_field n (some v) none u on-fields size sv sw su = (refl, sym (and-true (there (merged_field (some v) u))))
three_field n (some v) (some w) none on-fields size sv sw su = go (merged_values v w)
  where
    go :
        (o : Option Value)
        → (((o >>= (λ m. some (some m))) >>= (λ m. merged_field m none)) ≡ (o >>= (λ m. some (some m))))
        × (there ((o >>= (λ m. some (some m))) >>= (λ m. merged_field m none)) ≡ (there (o >>= (λ m. some (some m))) && true))
    go none = (refl, refl)
    go (some m) = (refl, refl)
three_field n (some v) (some w) (some u) on-fields size sv sw su =
    three_named some merged_values merged_field (λ v w. refl) v w u (three_values n v w u on-fields (omega arith) sv sw su)

rest_size : {f : ℕ} {a : Attributes} → Split f a → ℕ
rest_size (at_name v a past ascends good) = values_in_attributes a

split_here : (f : ℕ) (v : Value) (a : Attributes) → Ascending (attribute f v a) → Split f (attribute f v a)
unfolding Ascending
split_here f v a h = at_name (some v) a h.1 h.2 h.0

split : (f g : ℕ) (v : Value) (a : Attributes) → f ≤ g → Ascending (attribute g v a) → Split f (attribute g v a)
unfolding Ascending Past
split f g v a le h =
    by_test (eqb f g)
    (λ e. rw (eqb-true f g e) (split_here g v a h))
    (λ e.
    let less : f < g = omega (arith, eqb-false f g e) in
    at_name none (attribute g v a) (less, past_trans f g a less h.1) h tt)

three_split :
    (n f : ℕ) {a b c : Attributes}
    → FieldsBelow n
    → (sa : Split f a)
    → (sb : Split f b)
    → (sc : Split f c)
    → rest_size sa + rest_size sb + rest_size sc < n
    → values_in_attributes a + values_in_attributes b + values_in_attributes c < suc n
    → Three merged_attributes a b c
unfolding rest_size
three_split n f on-fields (at_name v a pa sa ga) (at_name w b pb sb gb) (at_name u c pc sc gc) rest size =
    three_front f v w u a b c pa pb pc sa sb sc
    (three_field n v w u on-fields (omega (arith, size_front f v a, size_front f w b, size_front f u c)) ga gb gc)
    (on-fields a b c rest sa sb sc)

rest_least : {f : ℕ} {a : Attributes} (s : Split f a) → rest_size s ≤ values_in_attributes a
unfolding rest_size
rest_least {f} (at_name v a past ascends good) = omega (arith, size_front f v a)

rest_here :
    (f : ℕ) (v : Value) (a : Attributes) (h : Ascending (attribute f v a))
    → rest_size (split_here f v a h) < values_in_attributes (attribute f v a)
unfolding rest_size split_here values_in_attributes
rest_here f v a h = omega arith

more_fields : (n : ℕ) → FieldsBelow n → FieldsBelow (suc n)
unfolding merged_attributes values_in_attributes
more_fields n on-fields no_attribute b c size sa sb sc =
    rw (fields_no_left b sb, fields_no_left c sc)
    (by_option (merged_attributes b c)
    (λ e. rw e (refl, refl))
    (λ m e. rw (e, fields_no_left m (merged_ascends b c m sb sc e)) (refl, refl)))
more_fields n on-fields (attribute f v a) no_attribute c size sa sb sc =
    rw (fields_no_left c sc) (refl, sym (and-true (there (merged_attributes (attribute f v a) c))))
more_fields n on-fields (attribute f v a) (attribute g w b) no_attribute size sa sb sc =
    let whole : Option Attributes = merged_attributes (attribute f v a) (attribute g w b) in
    (bind_some whole, ap there (bind_some whole) ∙ sym (and-true (there whole)))
more_fields n on-fields (attribute f v a) (attribute g w b) (attribute h u c) size sa sb sc =
    compared g f
    (λ below-f.
    compared h g
    (λ below-g.
    let x = split h f v a (omega arith) sa in
    let y = split h g w b (omega arith) sb in
    three_split n h on-fields x y (split_here h u c sc) (omega (arith, rest_least x, rest_least y, rest_here h u c sc)) size)
    (λ from-g.
    let x = split g f v a (omega arith) sa in
    let y = split g h u c (omega arith) sc in
    three_split n g on-fields x (split_here g w b sb) y (omega (arith, rest_least x, rest_least y, rest_here g w b sb)) size))
    (λ from-f.
    compared h f
    (λ below-f.
    let x = split h f v a (omega arith) sa in
    let y = split h g w b (omega arith) sb in
    three_split n h on-fields x y (split_here h u c sc) (omega (arith, rest_least x, rest_least y, rest_here h u c sc)) size)
    (λ from-g.
    let x = split f g w b (omega arith) sb in
    let y = split f h u c (omega arith) sc in
    three_split n f on-fields (split_here f v a sa) x y (omega (arith, rest_least x, rest_least y, rest_here f v a sa)) size))

three_fields : (n : ℕ) → FieldsBelow n
three_fields zero = λ a b c size. absurd (omega arith)
three_fields (suc n) = more_fields n (three_fields n)

-- Attributes.

module _ (a b c : Attributes) (ha : Ascending a) (hb : Ascending b) (hc : Ascending c) where
  three_attributes : Three merged_attributes a b c
  three_attributes =
      three_fields (suc (values_in_attributes a + values_in_attributes b + values_in_attributes c)) a b c (le_refl _) ha hb hc

  -- three that are grouped either way give the same
  pub grouped_attributes :
      (merged_attributes a b >>= (λ ab. merged_attributes ab c)) ≡ (merged_attributes b c >>= (λ bc. merged_attributes a bc))
  grouped_attributes = three_attributes.0

  -- three merge exactly where each two of them do
  pub pairwise_attributes :
      there (merged_attributes a b >>= (λ ab. merged_attributes ab c))
      ≡ (there (merged_attributes a b) && (there (merged_attributes a c) && there (merged_attributes b c)))
  pairwise_attributes = three_attributes.1

-- Entities.

-- a checked run of rows gives such an entity's attributes
pub proper_good : (e : Entity) → IdsFrom 0 e.parents → ProperFields 0 e.attributes → GoodEntity e
proper_good e ids_ascend proper = record { ids_ascend = ids_ascend; fields_ascend = proper_ascending 0 e.attributes proper }

-- entities merge only where their parents are equal
other_left :
    (p r : List ℕ) (c : Attributes) (o : Option Attributes)
    → same_list p r ≡ false
    → ((o >>= (λ m. some (entity p m))) >>= (λ m. merged_entities m (entity r c))) ≡ none
other_left p r c none e = refl
other_left p r c (some m) e = rw e

other_right :
    (p q : List ℕ) (a : Attributes) (o : Option Attributes)
    → same_list p q ≡ false
    → ((o >>= (λ m. some (entity q m))) >>= (λ m. merged_entities (entity p a) m)) ≡ none
other_right p q a none e = refl
other_right p q a (some m) e = rw e

same_parents :
    (p : List ℕ) (a b : Attributes)
    → merged_entities (entity p a) (entity p b) ≡ (merged_attributes a b >>= (λ m. some (entity p m)))
same_parents p a b = rw ((same-list p p).1 refl)

three_parents :
    (p q r : List ℕ) (a b c : Attributes) → Three merged_attributes a b c → Three merged_entities (entity p a) (entity q b) (entity r c)
three_parents p q r a b c h =
    by_test (same_list p q)
    (λ s.
    rw (← (same-list p q).0 s)
    (by_test (same_list p r)
    (λ t. rw (← (same-list p r).0 t) (three_named (entity p) merged_attributes merged_entities (same_parents p) a b c h))
    (λ t.
    rw (same_parents p a b, t, other_left p r c (merged_attributes a b) t)
    (refl, sym (and-false (there (merged_attributes a b >>= (λ m. some (entity p m)))))))))
    (λ s.
    by_test (same_list q r)
    (λ t. rw (← (same-list q r).0 t, s, same_parents q b c, other_right p q a (merged_attributes b c) s) (refl, refl))
    (λ t. rw (s, t) (refl, refl)))

-- what is given where a first value and then a second is
pub bind_given :
    {A B : Type 0} (o : Option A) (next : A → Option B) {b : B} → (o >>= next) ≡ some b → (a : A) × (o ≡ some a) × (next a ≡ some b)
bind_given none next {b} e = absurd (none-ne-some b e)
bind_given (some a) next e = (a, refl, e)

pub merged_from : (a b m : Entity) → merged_entities a b ≡ some m → MergedFrom a b m
merged_from a b m e =
    let (same, given) = cond-some (same_list a.parents b.parents) _ m e in
    let (both, merged, is) = bind_given (merged_attributes a.attributes b.attributes) _ given in
    let whole : m ≡ entity a.parents both = sym (some-injective _ _ is) in
    rw whole (record { same_as_first = refl; same_as_second = (same-list a.parents b.parents).0 same; both_attributes = merged })

-- merging keeps entities good
pub merged_good : (a b m : Entity) → GoodEntity a → GoodEntity b → merged_entities a b ≡ some m → GoodEntity m
merged_good a b m ga gb e =
    let parts = merged_from a b m e in
    record {
      ids_ascend = rw parts.same_as_first ga.ids_ascend;
      fields_ascend =
          merged_ascends a.attributes b.attributes m.attributes ga.fields_ascend gb.fields_ascend parts.both_attributes;
    }

-- an entity merged with itself stays
pub entity_self : (a : Entity) → GoodEntity a → merged_entities a a ≡ some a
entity_self a ga = rw ((same-list a.parents a.parents).1 refl, fields_self a.attributes ga.fields_ascend)

-- the order of two does not matter
pub entities_swapped : (a b : Entity) → GoodEntity a → GoodEntity b → merged_entities a b ≡ merged_entities b a
entities_swapped a b ga gb =
    by_test (same_list a.parents b.parents)
    (λ t.
    let e : a.parents ≡ b.parents = (same-list a.parents b.parents).0 t in
    rw (
      t,
      (same-list b.parents a.parents).1 (sym e),
      swapped a.attributes b.attributes ga.fields_ascend gb.fields_ascend,
      e,
    ))
    (λ t.
    let turned : same_list b.parents a.parents ≡ false =
    by_test (same_list b.parents a.parents)
    (λ u. absurd (false≢true (sym t ∙ (same-list a.parents b.parents).1 (sym ((same-list b.parents a.parents).0 u)))))
    (λ u. u) in
    rw (t, turned))

-- there is a value, or there is none
pub there_given : {A : Type 0} (o : Option A) → (there o ≡ true) ↔ (o ≢ none)
there_given none = (λ e. absurd (false≢true e), λ h. absurd (h refl))
there_given (some a) = (λ _ e. some-ne-none a e, λ _. refl)

pub there_none : {A : Type 0} (o : Option A) → (there o ≡ false) ↔ (o ≡ none)
there_none none = (λ _. refl, λ _. refl)
there_none (some a) = (λ e. absurd (true≢false e), λ e. absurd (some-ne-none a e))

module _ (a b c : Entity) (ga : GoodEntity a) (gb : GoodEntity b) (gc : GoodEntity c) where
  three_entities : Three merged_entities a b c
  three_entities =
      three_parents a.parents b.parents c.parents a.attributes b.attributes c.attributes
      (three_attributes a.attributes b.attributes c.attributes ga.fields_ascend gb.fields_ascend gc.fields_ascend)

  -- three that are grouped either way give the same
  pub grouped_entities : (merged_entities a b >>= (λ ab. merged_entities ab c)) ≡ (merged_entities b c >>= (λ bc. merged_entities a bc))
  grouped_entities = three_entities.0

  -- what two merge to merges with a third exactly where each of them does
  pub pairwise_entities :
      (ab : Entity)
      → merged_entities a b ≡ some ab
      → there (merged_entities ab c) ≡ (there (merged_entities a c) && there (merged_entities b c))
  pairwise_entities ab e = rw e at three_entities.1

  pub pairwise_merges : (ab : Entity) → merged_entities a b ≡ some ab → Merges ab c ↔ (Merges a c × Merges b c)
  pairwise_merges ab e =
      let split-test = and-eq-true_iff (there (merged_entities a c)) (there (merged_entities b c)) in (
        λ h.
            let (first, second) = split-test.0 (sym (pairwise_entities ab e) ∙ (there_given (merged_entities ab c)).1 h) in
            ((there_given (merged_entities a c)).0 first, (there_given (merged_entities b c)).0 second),
        λ h.
            (there_given (merged_entities ab c)).0
            (pairwise_entities ab e
            ∙ split-test.1 ((there_given (merged_entities a c)).1 h.0, (there_given (merged_entities b c)).1 h.1)),
      )

-- The test whether two merge: their parents are equal, and one pass over the rows of their attributes gives rows.
pub entities_test :
    (d : ℕ) (a b : Entity)
    → GoodEntity a
    → GoodEntity b
    → there (merged_entities a b)
    ≡ (same_list a.parents b.parents && there (merge_rows none (attribute_rows d a.attributes) (attribute_rows d b.attributes)))
entities_test d a b ga gb =
    rw (one_pass d a.attributes b.attributes ga.fields_ascend gb.fields_ascend)
    (go (same_list a.parents b.parents) (merged_attributes a.attributes b.attributes))
  where
    go :
        (t : Bool) (o : Option Attributes)
        → there (cond t (o >>= (λ both. some (entity a.parents both))) none) ≡ (t && there (o >>= (λ m. some (attribute_rows d m))))
    go false o = refl
    go true none = refl
    go true (some m) = refl

-- Answers to one entity, merged one after the other.

-- one answer more is merged with what those before it come to
pub all_more : (a : Entity) (l r : List Entity) → merged_all a (l ++ r) ≡ (merged_all a l >>= (λ m. merged_all m r))
unfolding merged_all
all_more a [] r = refl
all_more a (b ∷ l) r = go (merged_entities a b) (λ ab. all_more ab l r)
  where
    go :
        (o : Option Entity)
        → ((ab : Entity) → merged_all ab (l ++ r) ≡ (merged_all ab l >>= (λ m. merged_all m r)))
        → (o >>= (λ ab. merged_all ab (l ++ r))) ≡ ((o >>= (λ ab. merged_all ab l)) >>= (λ m. merged_all m r))
    go none rest = refl
    go (some ab) rest = rest ab

-- of good answers it is good
pub all_good : (a : Entity) (l : List Entity) (m : Entity) → Each GoodEntity (a ∷ l) → merged_all a l ≡ some m → GoodEntity m
unfolding merged_all Each
all_good a [] m good e = rw (some-injective a m e) at good.0
all_good a (b ∷ l) m good e =
    let (ab, first, rest) = bind_given (merged_entities a b) _ e in
    all_good ab l m (merged_good a b ab good.0 good.1.0 first, good.1.1) rest

-- What they come to merges with c exactly where each of them does: as a test, and below as a statement.
pub all_merge_test :
    (a : Entity) (l : List Entity) (m c : Entity)
    → Each GoodEntity (a ∷ l)
    → GoodEntity c
    → merged_all a l ≡ some m
    → there (merged_entities m c) ≡ each_merges (a ∷ l) c
unfolding merged_all Each each_merges
all_merge_test a [] m c good gc e = rw (some-injective a m e) (sym (and-true (there (merged_entities m c))))
all_merge_test a (b ∷ l) m c good gc e =
    let (ab, first, rest) = bind_given (merged_entities a b) _ e in
    all_merge_test ab l m c (merged_good a b ab good.0 good.1.0 first, good.1.1) gc rest
    ∙ rw (pairwise_entities a b c good.0 good.1.0 gc ab first)
    (and_assoc (there (merged_entities a c)) (there (merged_entities b c)) (each_merges l c))

pub each-merges : (l : List Entity) (c : Entity) → (each_merges l c ≡ true) ↔ Each (λ w. Merges w c) l
unfolding each_merges Each
each-merges [] c = (λ _. tt, λ _. refl)
each-merges (w ∷ ws) c = (
  λ e.
      let (first, rest) = (and-eq-true_iff (there (merged_entities w c)) (each_merges ws c)).0 e in
      ((there_given (merged_entities w c)).0 first, (each-merges ws c).0 rest),
  λ h.
      (and-eq-true_iff (there (merged_entities w c)) (each_merges ws c)).1
      ((there_given (merged_entities w c)).1 h.0, (each-merges ws c).1 h.1),
)

pub all_merge :
    (a : Entity) (l : List Entity) (m c : Entity)
    → Each GoodEntity (a ∷ l)
    → GoodEntity c
    → merged_all a l ≡ some m
    → Merges m c ↔ Each (λ w. Merges w c) (a ∷ l)
all_merge a l m c good gc e =
    let test : there (merged_entities m c) ≡ each_merges (a ∷ l) c = all_merge_test a l m c good gc e in (
      λ h. (each-merges (a ∷ l) c).0 (sym test ∙ (there_given (merged_entities m c)).1 h),
      λ h. (there_given (merged_entities m c)).0 (test ∙ (each-merges (a ∷ l) c).1 h),
    )

-- The order of answers and repeats do not matter: what answers come to is the least entity that each of them adds nothing to.

module _ (m n w : Entity) (gm : GoodEntity m) (gn : GoodEntity n) (gw : GoodEntity w) where
  nothing_trans : AddsNothing m n → AddsNothing n w → AddsNothing m w
  nothing_trans h k =
      let e : merged_entities m w ≡ merged_entities m n = rw (h, k) at (grouped_entities m n w gm gn gw) in
      e ∙ h

  -- of two that add nothing to m the merge adds nothing either
  nothing_both : AddsNothing m n → AddsNothing m w → (nw : Entity) × (merged_entities n w ≡ some nw) × AddsNothing m nw
  nothing_both h k =
      let e : merged_entities m w ≡ (merged_entities n w >>= (λ nw. merged_entities m nw)) = rw h at (grouped_entities m n w gm gn gw) in
      bind_given (merged_entities n w) _ (sym e ∙ k)

-- to a merge neither of the two adds anything
nothing_first : (a b m : Entity) → GoodEntity a → GoodEntity b → merged_entities a b ≡ some m → AddsNothing m a
nothing_first a b m ga gb e =
    let gm : GoodEntity m = merged_good a b m ga gb e in
    let grouped : some m ≡ merged_entities a m = rw (entity_self a ga, e) at (grouped_entities a a b ga ga gb) in
    entities_swapped m a gm ga ∙ sym grouped

nothing_second : (a b m : Entity) → GoodEntity a → GoodEntity b → merged_entities a b ≡ some m → AddsNothing m b
nothing_second a b m ga gb e =
    rw (entity_self b gb, e) at (grouped_entities a b b ga gb gb)

nothing_all : (a : Entity) (l : List Entity) (m : Entity) → Each GoodEntity (a ∷ l) → merged_all a l ≡ some m → Each (AddsNothing m) (a ∷ l)
unfolding merged_all Each
nothing_all a [] m good e = (rw (← some-injective a m e) (entity_self a good.0), tt)
nothing_all a (b ∷ l) m good e =
    let (ab, first, rest) = bind_given (merged_entities a b) _ e in
    let gab : GoodEntity ab = merged_good a b ab good.0 good.1.0 first in
    let gm : GoodEntity m = all_good ab l m (gab, good.1.1) rest in
    let (to-first, to-rest) = nothing_all ab l m (gab, good.1.1) rest in (
      nothing_trans m ab a gm gab good.0 to-first (nothing_first a b ab good.0 good.1.0 first),
      (nothing_trans m ab b gm gab good.1.0 to-first (nothing_second a b ab good.0 good.1.0 first), to-rest),
    )

-- and where each adds nothing to n, they merge, to what adds nothing to n
least_all :
    (a : Entity) (l : List Entity) (n : Entity)
    → GoodEntity n
    → Each GoodEntity (a ∷ l)
    → Each (AddsNothing n) (a ∷ l)
    → (m : Entity) × (merged_all a l ≡ some m) × AddsNothing n m
unfolding merged_all Each
least_all a [] n gn good h = (a, refl, h.0)
least_all a (b ∷ l) n gn good h =
    let (ab, first, to-n) = nothing_both n a b gn good.0 good.1.0 h.0 h.1.0 in
    let (m, rest, least) = least_all ab l n gn (merged_good a b ab good.0 good.1.0 first, good.1.1) (to-n, h.1.1) in
    (m, rw first rest, least)

each_member : {A : Type 0} (P : A → Type 0) {a : A} {l : List A} → Each P l → Member a l → P a
unfolding Each
each_member P h (here e) = rw e h.0
each_member P h (later member) = each_member P h.1 member

members_each : {A : Type 0} (P : A → Type 0) (l : List A) → ((a : A) → Member a l → P a) → Each P l
unfolding Each
members_each P [] h = tt
members_each P (a ∷ l) h = (h a (here refl), members_each P l (λ b member. h b (later member)))

-- of the same ones if the one list merges then the other does, to what adds nothing to it
same_least :
    (a b : Entity) (l k : List Entity) (m : Entity)
    → Each GoodEntity (a ∷ l)
    → Each GoodEntity (b ∷ k)
    → ((c : Entity) → Member c (b ∷ k) → Member c (a ∷ l))
    → merged_all a l ≡ some m
    → (n : Entity) × (merged_all b k ≡ some n) × AddsNothing m n
same_least a b l k m good-l good_k among e =
    least_all b k m (all_good a l m good-l e) good_k
    (members_each (AddsNothing m) (b ∷ k) (λ c member. each_member (AddsNothing m) (nothing_all a l m good-l e) (among c member)))

-- The same answers in any order, with any repeats, come to the same.
pub same_merge :
    (cs ds : List Entity) → Each GoodEntity cs → ((c : Entity) → Member c cs ↔ Member c ds) → merged_of cs ≡ merged_of ds
unfolding merged_of
same_merge [] [] good same = refl
same_merge [] (b ∷ k) good same = absurd (none_in_empty ((same b).1 (here refl)))
same_merge (a ∷ l) [] good same = absurd (none_in_empty ((same a).0 (here refl)))
same_merge (a ∷ l) (b ∷ k) good same =
    let good_k : Each GoodEntity (b ∷ k) = members_each GoodEntity (b ∷ k) (λ c member. each_member GoodEntity good ((same c).1 member)) in
    by_option (merged_all a l)
    (λ e.
    by_option (merged_all b k)
    (λ f. e ∙ sym f)
    (λ n f.
    let (m, given, nothing) = same_least b a k l n good_k good (λ c. (same c).0) f in
    absurd (none-ne-some m (sym e ∙ given))))
    (λ m e.
    let (n, f, to-m) = same_least a b l k m good good_k (λ c. (same c).1) e in
    let (m', again, to-n) = same_least b a k l n good_k good (λ c. (same c).0) f in
    let is : m ≡ m' = some-injective m m' (sym e ∙ again) in
    let swap : merged_entities m n ≡ merged_entities n m = entities_swapped m n (all_good a l m good e) (all_good b k n good_k f) in
    e ∙ sym to-m ∙ swap ∙ rw (← is) at to-n ∙ sym f)
