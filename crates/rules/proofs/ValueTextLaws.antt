-- Laws of the texts of values (ValueTexts): what an accepted text gives passes the test of rows.
use Rattle.std.specs.Prelude.{ℕ, suc, ◌+◌, ◌-◌, ◌≡◌, Bool, true, false, cond, ◌&&◌, leb, ltb, eqb, length}
use Rattle.std.proofs.Math.Path.{refl}
use Rattle.std.proofs.Common.{sym, ap, ◌∙◌, arith}
use mathlib.Core.List.{List, [], ◌∷◌, ◌++◌, map}
use Rattle.std.proofs.Math.Option.{Option, none, some, none-ne-some, some-injective}
use Rattle.rules.specs.Numbers.{accepted}
use Rattle.rules.specs.Facts.{by_test, by_option, both_true, cond-true, cond-some, accepted_same, then_accepted}
use Rattle.rules.specs.Text.{lines_of, fields_of, decimal_of}
use Rattle.rules.specs.Lines.{fold_lines}
use Rattle.rules.proofs.LineLaws.{fold_kept}
use Rattle.rules.specs.Listing.{is_letter, place_in}
use Rattle.rules.proofs.ListingLaws.{bind_some, refused_not}
use Rattle.rules.specs.ValueRows.{ValueRow, value_row}
use Rattle.rules.specs.ValueRowTests.{Level, is_value_row, in_turn, comes, level_at, levels_after, fits_level, passes, lawful_value_rows}
use Rattle.rules.specs.ValueTexts.{
  StoreLine,
  entity_line,
  parent_line,
  ancestor_line,
  attribute_line,
  EntityRead,
  entity_read,
  is_above,
  without_rows,
  of_entity,
  StoreRead,
  store_read,
  entities_in,
  of_last,
  of_store,
  id_line,
  store_line_of,
  store_line,
  unordered_in,
  read_store,
  ValueRead,
  RequestRead,
  asked_of,
  value_row_of,
  field_level,
  no_rows,
  may_come,
  with_row,
  row_taken,
  has_room,
  or_one,
  value_line,
  unordered,
  least_of,
  in_order,
  value_from_lines,
  read_value,
  request_read,
  request_lines,
  read_request,
}
pub use Rattle.rules.specs.ValueTextLaws.{Came, CameEntity, CameStore, LawfulEntity}
unfoldable pub use Rattle.rules.specs.ValueTextLaws.{levels_past, may_pass, Every}

-- ---- rows by themselves

-- the row of a line is of its form
pub row_of_form : (fields : List (List ℕ)) (x : ValueRow) → value_row_of fields ≡ some x → is_value_row x ≡ true
unfolding value_row_of
row_of_form [] x e = absurd (none-ne-some x e)
row_of_form (a ∷ []) x e = absurd (none-ne-some x e)
row_of_form (a ∷ b ∷ []) x e = absurd (none-ne-some x e)
row_of_form (a ∷ b ∷ c ∷ []) x e = absurd (none-ne-some x e)
row_of_form (a ∷ b ∷ c ∷ d ∷ []) x e = absurd (none-ne-some x e)
row_of_form (word ∷ b ∷ c ∷ d ∷ f ∷ []) x e =
    bind_some (decimal_of b) _ x (cond-some (is_letter 86 word) _ x e).1 λ depth d-read e₁.
    bind_some (decimal_of c) _ x e₁ λ key k-read e₂.
    bind_some (place_in _ d) _ x e₂ λ kind l-read e₃.
    bind_some (decimal_of f) _ x e₃ λ number n-read e₄.
    let (formed, same) = cond-some (is_value_row (value_row depth key kind number)) _ x e₄ in
    rw (← some-injective (value_row depth key kind number) x same) formed
row_of_form (a ∷ b ∷ c ∷ d ∷ f ∷ g ∷ more) x e = absurd (none-ne-some x e)

-- ---- rows one after the other

module _ (x : ValueRow) where
  -- one row more
  levels_snoc : (levels : List Level) (rows : List ValueRow) → levels_past levels (rows ++ (x ∷ [])) ≡ levels_after 1 (levels_past levels rows) x
  unfolding levels_past
  levels_snoc levels [] = refl
  levels_snoc levels (y ∷ rows) = levels_snoc (levels_after 1 levels y) rows

  pass_snoc : (levels : List Level) (rows : List ValueRow) → may_pass levels rows ≡ true → is_value_row x ≡ true →
      may_come (levels_past levels rows) x ≡ true → may_pass levels (rows ++ (x ∷ [])) ≡ true
  unfolding levels_past may_pass
  pass_snoc levels [] passed formed may = rw (formed, may)
  pass_snoc levels (y ∷ rows) passed formed may =
      let (test, rest) = (cond-true (is_value_row y && may_come levels y) (may_pass (levels_after 1 levels y) rows)).0 passed in
      rw test (pass_snoc (levels_after 1 levels y) rows rest formed may)

-- rows that pass without a place out of order pass the test
four_true : (a b c d : Bool) → (a && (b && c)) ≡ true → d ≡ true → (a && (b && (c && d))) ≡ true
four_true true true true d e f = f
four_true true true false d e f = e
four_true true false c d e f = e
four_true false b c d e f = e

in_turn_first : (test : Bool) (place : ℕ) (rest : List ℕ) → cond test rest (place ∷ rest) ≡ [] → (test ≡ true) × (rest ≡ [])
in_turn_first true place rest e = (refl, e)
in_turn_first false place rest e = absurd (let z : ◌≡◌ {A = ℕ} 0 1 = cc in omega arith)

pub ordered_passes :
    (levels : List Level) (place : ℕ) (rows : List ValueRow) → may_pass levels rows ≡ true → unordered levels place rows ≡ []
    → passes 1 levels rows ≡ true
unfolding may_pass unordered passes
ordered_passes levels place [] passed ordered = refl
ordered_passes levels place (x ∷ rows) passed ordered =
    let (test, rest) = (cond-true (is_value_row x && may_come levels x) (may_pass (levels_after 1 levels x) rows)).0 passed in
    let (formed, may) = both_true (is_value_row x) (may_come levels x) test in
    let (turn, more) = in_turn_first (in_turn (level_at 1 levels x.depth) x rows) _ (unordered (levels_after 1 levels x) (suc place) rows) ordered in
    let come : comes 1 levels x rows ≡ true =
    four_true (leb 1 x.depth) (ltb (x.depth - 1) (length levels)) (fits_level (level_at 1 levels x.depth) x) _ may turn in
    rw (formed, come) (ordered_passes (levels_after 1 levels x) (suc place) rows rest more)

-- ---- the least of some places

pub least_none : (places : List ℕ) → least_of places ≡ none → places ≡ []
unfolding least_of
least_none [] e = refl
least_none (n ∷ ns) e =
    by_option (least_of ns)
    (λ no_more. absurd (none-ne-some n (sym e ∙ rw no_more)))
    (λ m more. absurd (none-ne-some (cond (ltb n m) n m) (sym e ∙ rw more)))

-- ---- what an accepted text gives

pub came_none : Came no_rows
unfolding may_pass levels_past
came_none = (refl, refl)

given : {A : Type 0} (place : ℕ) (o : Option A) (a : A) → or_one place o ≡ accepted a → o ≡ some a
given place none a e = absurd (let z : ◌≡◌ {A = ℕ} 0 1 = cc in omega arith)
given place (some b) a e = cc

-- a row that is taken
pub came_row : (sofar after : ValueRead) (x : ValueRow) → Came sofar → is_value_row x ≡ true → row_taken sofar x ≡ some after → Came after
came_row sofar after x (passed, levels) formed e =
    let (may, same) = cond-some (may_come sofar.levels x) _ after e in
    rw (← some-injective (with_row sofar x) after same) (
      pass_snoc x field_level sofar.rows passed formed (rw levels at may),
      rw levels (sym (levels_snoc x field_level sofar.rows)),
    )

pub came_line : (place : ℕ) (line : List ℕ) (sofar after : ValueRead) → Came sofar → value_line place line sofar ≡ accepted after → Came after
came_line place line sofar after came e =
    bind_some (value_row_of (fields_of line)) _ after (given place _ after e) λ x read e₁.
    came_row sofar after x came (row_of_form (fields_of line) x read) (cond-some (has_room sofar) _ after e₁).1

-- rows in order are given as they are
pub ordered_same : (place : ℕ) (rows given : List ValueRow) → may_pass field_level rows ≡ true → in_order place rows ≡ accepted given →
    (rows ≡ given) × (lawful_value_rows rows ≡ true)
ordered_same place rows given passed e =
    by_option (least_of (unordered field_level place rows))
    (λ q. (accepted_same rows given (rw q at e), ordered_passes field_level place rows passed (least_none _ q)))
    (λ p q. refused_not 1 p given (rw q at e))

pub lines_lawful : (place : ℕ) (lines : List (List ℕ)) (rows : List ValueRow) → value_from_lines place lines ≡ accepted rows → lawful_value_rows rows ≡ true
lines_lawful place lines rows e =
    let (all, read, judged) = then_accepted (fold_lines value_line place lines no_rows) _ e in
    let (passed, levels) = fold_kept value_line Came came_line lines place no_rows came_none read in
    let (same, lawful) = ordered_same place all.state.rows rows passed judged in
    rw (← same) lawful

-- what an accepted value text gives passes the test of rows
pub value_lawful : (text : List ℕ) (rows : List ValueRow) → read_value text ≡ accepted rows → lawful_value_rows rows ≡ true
value_lawful text rows e = lines_lawful 0 (lines_of text) rows e

-- so does the context of a request
request-lines : (lines : List (List ℕ)) (request : RequestRead) → request_lines lines ≡ accepted request → lawful_value_rows request.context ≡ true
request-lines [] request e = refused_not 1 0 request e
request-lines (line ∷ []) request e = refused_not 1 0 request e
request-lines (line ∷ next ∷ lines) request e =
    let (asked, there, rest) = then_accepted (or_one 0 (asked_of (fields_of line))) _ e in
    let (rows, read, same) = then_accepted (value_from_lines 1 (next ∷ lines)) _ rest in
    let context : request.context ≡ rows = ap (λ (r : RequestRead). r.context) (sym (accepted_same (request_read asked rows) request same)) in
    rw context (lines_lawful 1 (next ∷ lines) rows read)

pub request_lawful : (text : List ℕ) (request : RequestRead) → read_request text ≡ accepted request → lawful_value_rows request.context ≡ true
request_lawful text request e = request-lines (lines_of text) request e

-- ---- a store

every_snoc : (P : EntityRead → Type 0) (es : List EntityRead) (e : EntityRead) → Every P es → P e → Every P (es ++ (e ∷ []))
unfolding Every
every_snoc P [] e all here = (here, tt)
every_snoc P (first ∷ es) e all here = (all.0, every_snoc P es e all.1 here)

store_all : (sofar : StoreRead) → CameStore sofar → Every CameEntity (entities_in sofar)
store_all sofar (earlier, last) =
    by_option sofar.last (λ e. rw e earlier) (λ entity e. rw e (every_snoc CameEntity sofar.earlier entity earlier (last entity e)))

of-entity : (said : StoreLine) (e next : EntityRead) → ((x : ValueRow) → said ≡ attribute_line x → is_value_row x ≡ true) → CameEntity e →
    of_entity said e ≡ some next → CameEntity next
of-entity (entity_line id) e next formed came q = absurd (none-ne-some next q)
of-entity (parent_line id) e next formed came q =
    let more = entity_read e.id (e.parents ++ (id ∷ [])) e.ancestors e.value in
    let (_, same) = cond-some (without_rows e && (eqb (length e.ancestors) 0 && is_above e.parents id)) (some more) next q in
    rw (← some-injective more next same) came
of-entity (ancestor_line id) e next formed came q =
    let more = entity_read e.id e.parents (e.ancestors ++ (id ∷ [])) e.value in
    let (_, same) = cond-some (without_rows e && is_above e.ancestors id) (some more) next q in
    rw (← some-injective more next same) came
of-entity (attribute_line x) e next formed came q =
    bind_some (row_taken e.value x) _ next q λ value taken same.
    rw (← some-injective (entity_read e.id e.parents e.ancestors value) next same)
    (came_row e.value value x came (formed x refl) taken)

-- a line of the last entity
of-last : (said : StoreLine) (sofar after : StoreRead) → ((x : ValueRow) → said ≡ attribute_line x → is_value_row x ≡ true) → CameStore sofar →
    of_last said sofar ≡ some after → CameStore after
of-last said sofar after formed (earlier, last) q =
    bind_some sofar.last _ after q λ e here q₁.
    bind_some (of_entity said e) _ after q₁ λ next taken same.
    rw (← some-injective (store_read sofar.earlier (some next)) after same)
    (earlier, λ entity there. rw (← some-injective next entity there) (of-entity said e next formed (last e here) taken))

of-store : (said : StoreLine) (sofar after : StoreRead) → ((x : ValueRow) → said ≡ attribute_line x → is_value_row x ≡ true) → CameStore sofar →
    of_store said sofar ≡ some after → CameStore after
of-store (entity_line id) sofar after formed came q =
    let begun = entity_read id [] [] no_rows in
    let more = store_read (entities_in sofar) (some begun) in
    let (_, same) = cond-some (is_above (map (λ e. e.id) (entities_in sofar)) id) (some more) after q in
    rw (← some-injective more after same)
    (store_all sofar came, λ entity there. rw (← some-injective begun entity there) came_none)
of-store (parent_line id) sofar after formed came q = of-last (parent_line id) sofar after formed came q
of-store (ancestor_line id) sofar after formed came q = of-last (ancestor_line id) sofar after formed came q
of-store (attribute_line x) sofar after formed came q = of-last (attribute_line x) sofar after formed came q

-- a row of a store's line is of its form
line_formed : (fields : List (List ℕ)) (said : StoreLine) → store_line_of fields ≡ some said → (x : ValueRow) → said ≡ attribute_line x → is_value_row x ≡ true
unfolding store_line_of
line_formed [] said q x e = absurd (none-ne-some said q)
line_formed (a ∷ []) said q x e = absurd (none-ne-some said q)
line_formed (word ∷ id ∷ []) said q x e =
    bind_some (decimal_of id) (id_line word) said q λ n read there.
    absurd (no_row n (there ∙ ap some e))
  where
    no_row : (n : ℕ) → id_line word n ≡ some (attribute_line x) → ⊥
    no_row n there =
        by_test (is_letter 69 word)
        (λ t. let z : ◌≡◌ {A = ℕ} 0 1 = cc (rw t at there) in omega arith)
        (λ t.
        by_test (is_letter 80 word)
        (λ u. let z : ◌≡◌ {A = ℕ} 0 1 = cc (rw (t, u) at there) in omega arith)
        (λ u.
        by_test (is_letter 85 word)
        (λ v. let z : ◌≡◌ {A = ℕ} 0 1 = cc (rw (t, u, v) at there) in omega arith)
        (λ v. none-ne-some (attribute_line x) (rw (t, u, v) at there))))
line_formed (a ∷ b ∷ c ∷ more) said q x e =
    bind_some (value_row_of (a ∷ b ∷ c ∷ more)) _ said q λ y read there.
    let same : y ≡ x = cc (there, e) in
    rw (← same) (row_of_form (a ∷ b ∷ c ∷ more) y read)

store-line : (place : ℕ) (line : List ℕ) (sofar after : StoreRead) → CameStore sofar → store_line place line sofar ≡ accepted after → CameStore after
store-line place line sofar after came e =
    bind_some (store_line_of (fields_of line)) _ after (given place _ after e) λ said read taken.
    of-store said sofar after (line_formed (fields_of line) said read) came taken

append_nothing : (a b : List ℕ) → a ++ b ≡ [] → (a ≡ []) × (b ≡ [])
append_nothing [] b e = (refl, e)
append_nothing (n ∷ a) b e = absurd (let z : ◌≡◌ {A = ℕ} 0 1 = cc in omega arith)

every_lawful : (place : ℕ) (es : List EntityRead) → Every CameEntity es → unordered_in place es ≡ [] → Every LawfulEntity es
unfolding Every unordered_in
every_lawful place [] came ordered = tt
every_lawful place (e ∷ es) came ordered =
    let (here, rest) = append_nothing (unordered field_level _ e.value.rows) _ ordered in
    (ordered_passes field_level _ e.value.rows came.0.0 here, every_lawful (suc place + length e.parents + length e.ancestors + length e.value.rows) es came.1 rest)

pub store_lawful : (text : List ℕ) (es : List EntityRead) → read_store text ≡ accepted es → Every LawfulEntity es
unfolding Every
store_lawful text es e =
    let (all, read, judged) = then_accepted (fold_lines store_line 0 (lines_of text) (store_read [] none)) _ e in
    let came = fold_kept store_line CameStore store-line (lines_of text) 0 (store_read [] none) (tt, λ entity there. absurd (none-ne-some entity there)) read in
    by_option (least_of (unordered_in 0 (entities_in all.state)))
    (λ q.
    let same : entities_in all.state ≡ es = accepted_same (entities_in all.state) es (rw q at judged) in
    rw (← same) (every_lawful 0 (entities_in all.state) (store_all all.state came) (least_none _ q)))
    (λ p q. refused_not 1 p es (rw q at judged))
