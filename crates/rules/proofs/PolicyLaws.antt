-- Laws of policy texts (Policies): their contributions are lawful, and adding a text accepts exactly where its contributions are accepted
-- and all of them are accepted one after the other. Demand3Policies states what follows. No contract cites this file.
use Rattle.std.specs.Prelude.{ℕ, ◌+◌, ◌^◌, ◌<◌, ◌≡◌, ◌↔◌, true, eqb, ltb, length}
use Rattle.std.proofs.Common.{arith, sym, ap, ap₂, ◌∙◌, length-append, ltb-true}
use Rattle.std.proofs.Math.Path.{refl}
use Rattle.std.proofs.Math.Logic.{⊎_elim}
use mathlib.Core.List.Memᴰ.{append_cases as left-or-right}
use mathlib.Core.List.Memᴰ.{append_left as in_left}
use mathlib.Core.List.Memᴰ.{append_right as in_right}
use mathlib.Core.List.Memᴰ.{cases_cons as here-or-later}
use mathlib.Core.List.Memᴰ.{head as here}
use mathlib.Core.List.Memᴰ.{not-nil as none_in_empty}
use mathlib.Core.List.Memᴰ.{tail as later}
use mathlib.Core.List.{
  List,
  [],
  ◌∷◌,
  ◌++◌,
  append-nil,
  append_assoc,
  Memᴰ as Member,
}
use Rattle.std.proofs.Math.Option.{Option, none, some, some-injective}
use Rattle.rules.specs.Numbers.{Answer, accepted, refused, and_then}
use Rattle.rules.specs.Text.{lines_of, fields_of}
use Rattle.rules.specs.Facts.{by_test, by_option, cond-some, both_true, accepted_same, then_accepted}
use Rattle.rules.specs.Lines.{Folded, folded, fold_lines}
use Rattle.rules.proofs.LineLaws.{fold_kept, fold_alike}
use Rattle.rules.specs.Tries.{Row, ids, is_entry, is_row}
use Rattle.rules.specs.Listing.{row_of}
use Rattle.rules.proofs.ListingLaws.{bind_some, refused_not, row_is_row}
use Rattle.rules.specs.Schema.{Item}
use Rattle.rules.specs.Steps.{Result, step_line, ended}
use Rattle.rules.proofs.StepLaws.{Each, GoodSchema}
use Rattle.rules.proofs.AnalysisLaws.{line_keeps, ended_lawful}
use Rattle.rules.specs.Building.{add, after, build, keep, accepted_of, Contributions}
use Rattle.rules.proofs.BuildingLaws.{accepted_most, build_append, accepted_append}
use Rattle.rules.specs.Policies.{
  request_in,
  Begun,
  begin,
  Policy,
  policy,
  closed,
  policy_step,
  policy_line,
  contributions_of,
  add_at,
  add_policy,
  add_policies,
}
pub use Rattle.rules.specs.PolicyLaws.{gather_at, GoodBegun, GoodPolicy, AllAdd, in_front, finish}
unfoldable pub use Rattle.rules.specs.PolicyLaws.{contributions_of_all}

-- ---- the contributions of a text are lawful

-- the request type of an `A` line has 48 bits
pub request_below : (line : List ℕ) (request : ℕ) → request_in line ≡ some request → request < ids ^ 3
request_below line request e =
    bind_some (row_of (fields_of line)) _ request e
    (λ row q e.
    let (entry, given) = cond-some (is_entry row) (some row.step) request e in
    let whole : is_row row ≡ true = row_is_row (fields_of line) row q in
    let small : ltb row.step (ids ^ 3) ≡ true = (both_true (ltb row.step (ids ^ 3)) _ (rw entry at whole)).0 in
    rw (sym (some-injective _ _ given)) (ltb-true row.step (ids ^ 3) small))

-- lawful contributions, and others behind them
contributions_append : (cs ds : List (List Row)) → Contributions cs → Contributions ds → Contributions (cs ++ ds)
unfolding Contributions
contributions_append [] ds lcs lds = lds
contributions_append (c ∷ cs) ds (first, lcs) lds = (first, contributions_append cs ds lcs lds)

module _ (items : List Item) (schema : GoodSchema items) where
  closed_lawful :
      (place : ℕ) (b : Option Begun) (cs ds : List (List Row))
      → Contributions cs
      → GoodBegun b
      → closed gather_at items place (policy cs b) ≡ accepted ds
      → Contributions ds
  unfolding Contributions
  closed_lawful place none cs ds lcs good e = rw (sym (accepted_same cs ds e)) lcs
  closed_lawful place (some b) cs ds lcs (small, good) e =
      let (c, one, given) = then_accepted (ended b.request place b.results) (λ c. gather_at place c cs) e in
      rw (sym (accepted_same _ ds given)) (contributions_append cs (c ∷ []) lcs (ended_lawful b.request place b.results small good one, tt))

  policy_kept :
      (place : ℕ) (line : List ℕ) (p then : Policy (List (List Row)))
      → GoodPolicy p
      → policy_line gather_at items place line p ≡ accepted then
      → GoodPolicy then
  unfolding Each
  policy_kept place line p then (lcs, good) e =
      by_option (request_in line)
      (λ q. stepped p.begun good (rw (q, policy_line) at e))
      (λ request q. opened request (request_below line request q) (rw (q, policy_line) at e))
    where
      stepped :
          (b : Option Begun)
          → GoodBegun b
          → policy_step gather_at items place line (policy p.sofar b) ≡ accepted then
          → GoodPolicy then
      stepped none none-begun e = refused_not 1 place then e
      stepped (some b) (small, results-good) e =
          let (results, line_Taken, given) = then_accepted (step_line items place line b.results) (λ results. accepted (policy p.sofar (some (begin b.request results)))) e in
          rw (sym (accepted_same _ then given)) (lcs, (small, line_keeps items schema place line b.results results results-good line_Taken))

      opened :
          (request : ℕ)
          → request < ids ^ 3
          → and_then (closed gather_at items place p) (λ cs. accepted (policy cs (some (begin request [])))) ≡ accepted then
          → GoodPolicy then
      opened request small e =
          let (cs, ended-all, given) = then_accepted (closed gather_at items place p) (λ cs. accepted (policy cs (some (begin request [])))) e in
          rw (sym (accepted_same _ then given)) (closed_lawful place p.begun p.sofar cs lcs good ended-all, (small, tt))

  -- The contributions of a policy text are lawful.
  pub text_lawful : (text : List ℕ) (cs : List (List Row)) → contributions_of items text ≡ accepted cs → Contributions cs
  unfolding Contributions
  text_lawful text cs e =
      let (all, came, ended-all) = then_accepted _ (λ (all : Folded (Policy (List (List Row)))). closed gather_at items all.lines all.state) e in
      let (lcs, good) = fold_kept (policy_line gather_at items) GoodPolicy policy_kept (lines_of text) 0 (policy [] none) (tt, tt) came in
      closed_lawful all.lines all.state.begun all.state.sofar cs lcs good ended-all

-- ---- adding and gathering

-- lists whose fronts are as long are equal part by part
same_parts : {A : Type 0} (xs us ys vs : List A) → length xs ≡ length us → xs ++ ys ≡ us ++ vs → (xs ≡ us) × (ys ≡ vs)
same_parts [] [] ys vs h e = (refl, e)
same_parts [] (u ∷ us) ys vs h e = absurd (omega arith)
same_parts (x ∷ xs) [] ys vs h e = absurd (omega arith)
same_parts {A = A} (x ∷ xs) (u ∷ us) ys vs h e =
    let heads : x ≡ u = cc in
    let tails : xs ++ ys ≡ us ++ vs = cc in
    let (fronts, ends) = same_parts xs us ys vs (omega arith) tails in
    (ap₂ (λ (a : A) (l : List A). a ∷ l) heads fronts, ends)

-- so are some and then others
all_then :
    (m : List Row) (cs ds : List (List Row)) {between rows : List Row}
    → AllAdd m cs between
    → AllAdd between ds rows
    → AllAdd m (cs ++ ds) rows
all_then m cs ds (all, built) (All-more, built-more) = (
  rw (accepted_append cs ds m, all, ← built, All-more),
  rw (build_append cs ds m, ← built) built-more,
)

-- and where they are together, each part is
all_parts :
    (m : List Row) (cs ds : List (List Row)) {rows : List Row}
    → AllAdd m (cs ++ ds) rows
    → (accepted_of m cs ≡ cs) × AllAdd (build m cs) ds rows
all_parts m cs ds (all, built) =
    let parts : accepted_of m cs ++ accepted_of (build m cs) ds ≡ cs ++ ds = sym (accepted_append cs ds m) ∙ all in
    let long : length (accepted_of m cs) + length (accepted_of (build m cs) ds) ≡ length cs + length ds = simp length-append at (ap length parts) in
    let as_many : length (accepted_of m cs) ≡ length cs = omega (arith, accepted_most cs m, accepted_most ds (build m cs)) in
    let (first, rest) = same_parts (accepted_of m cs) cs (accepted_of (build m cs) ds) ds as_many parts in
    (first, (rest, built ∙ build_append cs ds m))

-- one contribution by itself
all_one : (place : ℕ) (m c rows : List Row) → (add_at place c m ≡ accepted rows) ↔ AllAdd m (c ∷ []) rows
unfolding accepted_of build
all_one place m c rows = go (add m c)
  where
    go :
        (answer : Answer (List Row))
        → (elim answer [ accepted rows ↦ accepted rows | refused number _ ↦ refused number place ] ≡ accepted rows)
        ↔ ((keep answer c [] ≡ c ∷ []) × (rows ≡ after m answer))
    go (accepted more) = (λ e. (refl, sym (accepted_same more rows e)), λ h. ap accepted (sym h.1))
    go (refused number at) = (λ e. refused_not number place rows e, λ h. absurd (omega (arith, ap length h.0)))

-- ---- adding to a manifest, and what is given meanwhile

-- An answer of adding to m accepts exactly where contributions are given that are all accepted, and then their build.
abbrev pub Adds : List Row → Answer (List Row) → Answer (List (List Row)) → Type 0
Adds m added given = (rows : List Row) → (added ≡ accepted rows) ↔ ((cs : List (List Row)) × (given ≡ accepted cs) × AllAdd m cs rows)

-- contributions are given, and all of them are added
adds_given :
    (m : List Row) (cs : List (List Row)) (added : Answer (List Row))
    → ((rows : List Row) → (added ≡ accepted rows) ↔ AllAdd m cs rows)
    → Adds m added (accepted cs)
adds_given m cs added whole rows = (
  λ e. (cs, refl, (whole rows).0 e),
  λ (ds, given, all). (whole rows).1 (rw (sym (accepted_same cs ds given)) at all),
)

adds_none : (m : List Row) → Adds m (accepted m) (accepted [])
unfolding accepted_of build
adds_none m = adds_given m [] (accepted m) (λ rows. (λ e. (refl, sym (accepted_same m rows e)), λ h. ap accepted (sym h.1)))

adds_one : (place : ℕ) (c m : List Row) → Adds m (add_at place c m) (accepted (c ∷ []))
adds_one place c m = adds_given m (c ∷ []) (add_at place c m) (all_one place m c)

-- both are refused
adds_refused : (m : List Row) (number place : ℕ) → Adds m (refused number place) (refused number place)
adds_refused m number place rows = (λ e. refused_not number place rows e, λ h. refused_not number place h.0 h.1)

-- what comes before both makes no difference
adds_behind :
    {A : Type 0} (m : List Row) (answer : Answer A) {added : A → Answer (List Row)} {given : A → Answer (List (List Row))}
    → ((a : A) → Adds m (added a) (given a))
    → Adds m (and_then answer added) (and_then answer given)
adds_behind m (accepted a) each = each a
adds_behind m (refused number place) each = adds_refused m number place

-- adding and then adding more
adds_then :
    (m : List Row) (added : Answer (List Row)) (given : Answer (List (List Row))) (next : List Row → Answer (List Row)) (others : Answer (List (List Row)))
    → Adds m added given
    → ((rows : List Row) → Adds rows (next rows) others)
    → Adds m (and_then added next) (and_then given (λ cs. in_front cs others))
adds_then m added given next others first rest rows = (
  λ e.
      let (between, one, two) = then_accepted added next e in
      let (cs, gives, all) = (first between).0 one in
      let (ds, Gives-more, All-more) = (rest between rows).0 two in
      (cs ++ ds, rw (gives, Gives-more), all_then m cs ds all All-more),
  λ (es, e, all).
      let (cs, gives, more) = then_accepted given (λ cs. in_front cs others) e in
      let (ds, Gives-more, same) = then_accepted others (λ ds. accepted (cs ++ ds)) more in
      let (first-all, rest_all) = all_parts m cs ds (rw (sym (accepted_same (cs ++ ds) es same)) at all) in
      let one : added ≡ accepted (build m cs) = (first (build m cs)).1 (cs, gives, (first-all, refl)) in
      let two : next (build m cs) ≡ accepted rows = (rest (build m cs) rows).1 (ds, Gives-more, rest_all) in
      rw (one, two),
)

-- ---- a text, line by line

module _ (items : List Item) (cs : List (List Row)) where
  -- contributions in front stay there
  abbrev behind_them : Policy (List (List Row)) → Policy (List (List Row))
  behind_them p = policy (cs ++ p.sofar) p.begun

  closed_behind :
      (place : ℕ) (p : Policy (List (List Row)))
      → closed gather_at items place (behind_them p) ≡ in_front cs (closed gather_at items place p)
  closed_behind place p = go p.begun
    where
      go :
          (b : Option Begun)
          → closed gather_at items place (policy (cs ++ p.sofar) b) ≡ in_front cs (closed gather_at items place (policy p.sofar b))
      go none = refl
      go (some b) = one (ended b.request place b.results)
        where
          one :
              (answer : Answer (List Row))
              → and_then answer (λ c. gather_at place c (cs ++ p.sofar)) ≡ in_front cs (and_then answer (λ c. gather_at place c p.sofar))
          one (accepted c) = rw append_assoc
          one (refused number at) = refl

  line_behind :
      (place : ℕ) (line : List ℕ) (p : Policy (List (List Row)))
      → policy_line gather_at items place line (behind_them p) ≡ and_then (policy_line gather_at items place line p) (λ then. accepted (behind_them then))
  line_behind place line p =
      by_option (request_in line)
      (λ q. rw (q, policy_line) (stepped p.begun))
      (λ request q. rw (q, policy_line, closed_behind place p) (opened request (closed gather_at items place p)))
    where
      stepped :
          (b : Option Begun)
          → policy_step gather_at items place line (policy (cs ++ p.sofar) b)
          ≡ and_then (policy_step gather_at items place line (policy p.sofar b)) (λ then. accepted (behind_them then))
      stepped none = refl
      stepped (some b) = one (step_line items place line b.results)
        where
          one : (answer : Answer (List Result)) →
              and_then answer (λ results. accepted (policy (cs ++ p.sofar) (some (begin b.request results))))
              ≡ and_then (and_then answer (λ results. accepted (policy p.sofar (some (begin b.request results))))) (λ then. accepted (behind_them then))
          one (accepted results) = refl
          one (refused number at) = refl

      opened : (request : ℕ) (answer : Answer (List (List Row))) →
          and_then (in_front cs answer) (λ ds. accepted (policy ds (some (begin request []))))
          ≡ and_then (and_then answer (λ ds. accepted (policy ds (some (begin request []))))) (λ then. accepted (behind_them then))
      opened request (accepted ds) = refl
      opened request (refused number at) = refl

  pub finish_behind :
      (place : ℕ) (lines : List (List ℕ)) (b : Option Begun)
      → finish gather_at items place lines (policy cs b) ≡ in_front cs (finish gather_at items place lines (policy [] b))
  finish_behind place lines b =
      let same : policy cs b ≡ behind_them (policy [] b) = rw append-nil in
      rw (same, fold_alike (policy_line gather_at items) (policy_line gather_at items) behind_them line_behind lines place (policy [] b))
      (go (fold_lines (policy_line gather_at items) place lines (policy [] b)))
    where
      go : (answer : Answer (Folded (Policy (List (List Row))))) →
          and_then (and_then answer (λ all. accepted (folded all.lines (behind_them all.state)))) (λ all. closed gather_at items all.lines all.state)
          ≡ in_front cs (and_then answer (λ all. closed gather_at items all.lines all.state))
      go (accepted all) = closed_behind all.lines all.state
      go (refused number at) = refl

module _ (items : List Item) where
  closed_adds :
      (place : ℕ) (b : Option Begun) (m : List Row)
      → Adds m (closed add_at items place (policy m b)) (closed gather_at items place (policy [] b))
  closed_adds place none m = adds_none m
  closed_adds place (some b) m = adds_behind m (ended b.request place b.results) (λ c. adds_one place c m)

  -- one line, and those behind it
  module _ (place : ℕ) (line : List ℕ) (lines : List (List ℕ)) where
    abbrev onward : {S : Type 0} → (ℕ → List Row → S → Answer S) → Answer (Policy S) → Answer S
    onward taking answer =
        and_then (and_then answer (λ then. fold_lines (policy_line taking items) (place + 1) lines then)) (λ all. closed taking items all.lines all.state)

    module _
        (rest :
        (b : Option Begun) (m : List Row)
        → Adds m (finish add_at items (place + 1) lines (policy m b)) (finish gather_at items (place + 1) lines (policy [] b))) where
      step_adds :
          (b : Option Begun) (m : List Row)
          → Adds m (onward add_at (policy_step add_at items place line (policy m b))) (onward gather_at (policy_step gather_at items place line (policy [] b)))
      step_adds none m = adds_refused m 1 place
      step_adds (some b) m = one (step_line items place line b.results)
        where
          one :
              (answer : Answer (List Result))
              → Adds m
              (onward add_at (and_then answer (λ results. accepted (policy m (some (begin b.request results))))))
              (onward gather_at (and_then answer (λ results. accepted (policy [] (some (begin b.request results))))))
          one (accepted results) = rest (some (begin b.request results)) m
          one (refused number at) = adds_refused m number at

      open_adds :
          (request : ℕ) (b : Option Begun) (m : List Row)
          → Adds m
          (onward add_at (and_then (closed add_at items place (policy m b)) (λ rows. accepted (policy rows (some (begin request []))))))
          (onward gather_at (and_then (closed gather_at items place (policy [] b)) (λ cs. accepted (policy cs (some (begin request []))))))
      open_adds request b m =
          rw (added (closed add_at items place (policy m b)), given (closed gather_at items place (policy [] b)))
          (adds_then m (closed add_at items place (policy m b)) (closed gather_at items place (policy [] b))
          (λ rows. finish add_at items (place + 1) lines (policy rows (some (begin request []))))
          (finish gather_at items (place + 1) lines (policy [] (some (begin request []))))
          (closed_adds place b m)
          (λ rows. rest (some (begin request [])) rows))
        where
          added :
              (answer : Answer (List Row))
              → onward add_at (and_then answer (λ rows. accepted (policy rows (some (begin request [])))))
              ≡ and_then answer (λ rows. finish add_at items (place + 1) lines (policy rows (some (begin request []))))
          added (accepted rows) = refl
          added (refused number at) = refl

          given :
              (answer : Answer (List (List Row)))
              → onward gather_at (and_then answer (λ cs. accepted (policy cs (some (begin request [])))))
              ≡ and_then answer (λ cs. in_front cs (finish gather_at items (place + 1) lines (policy [] (some (begin request [])))))
          given (accepted cs) = finish_behind items cs (place + 1) lines (some (begin request []))
          given (refused number at) = refl

      line_adds :
          (b : Option Begun) (m : List Row)
          → Adds m (onward add_at (policy_line add_at items place line (policy m b))) (onward gather_at (policy_line gather_at items place line (policy [] b)))
      line_adds b m =
          by_option (request_in line) (λ q. rw (q, policy_line) (step_adds b m)) (λ request q. rw (q, policy_line) (open_adds request b m))

  lines_add :
      (lines : List (List ℕ)) (place : ℕ) (b : Option Begun) (m : List Row)
      → Adds m (finish add_at items place lines (policy m b)) (finish gather_at items place lines (policy [] b))
  unfolding fold_lines
  lines_add [] place b m = closed_adds place b m
  lines_add (line ∷ []) place b m =
      by_test (eqb (length line) 0) (λ empty. rw empty (closed_adds place b m)) (λ cut. rw cut (adds_refused m 1 place))
  lines_add (line ∷ next ∷ lines) place b m =
      line_adds place line (next ∷ lines) (λ c n. lines_add (next ∷ lines) (place + 1) c n) b m

  -- Adding a policy text accepts exactly where its contributions are all accepted, one after the other, and then their build.
  pub policy_adds : (text : List ℕ) (m : List Row) → Adds m (add_policy items m text) (contributions_of items text)
  policy_adds text m = lines_add (lines_of text) 0 none m

-- ---- texts

module _ (items : List Item) where
  pub policies_add : (texts : List (List ℕ)) (m : List Row) → Adds m (add_policies items m texts) (contributions_of_all items texts)
  unfolding add_policies contributions_of_all
  policies_add [] m = adds_none m
  policies_add (text ∷ texts) m =
      adds_then m (add_policy items m text) (contributions_of items text) (λ rows. add_policies items rows texts) (contributions_of_all items texts)
      (policy_adds items text m)
      (λ rows. policies_add texts rows)

  -- the contributions of a text, and those of the others
  texts_parts :
      (text : List ℕ) (texts : List (List ℕ)) (all : List (List Row))
      → contributions_of_all items (text ∷ texts) ≡ accepted all
      → (cs : List (List Row)) × (others : List (List Row))
      × (contributions_of items text ≡ accepted cs) × (contributions_of_all items texts ≡ accepted others) × (cs ++ others ≡ all)
  unfolding contributions_of_all
  texts_parts text texts all e =
      let (cs, one, more) = then_accepted (contributions_of items text) (λ cs. in_front cs (contributions_of_all items texts)) e in
      let (others, rest, same) = then_accepted (contributions_of_all items texts) (λ others. accepted (cs ++ others)) more in
      (cs, others, one, rest, accepted_same (cs ++ others) all same)

  -- where texts have contributions, those are the contributions of each
  pub given_members :
      (texts : List (List ℕ)) (all : List (List Row))
      → contributions_of_all items texts ≡ accepted all
      → (c : List Row)
      → Member c all ↔ ((text : List ℕ) × Member text texts × (cs : List (List Row)) × (contributions_of items text ≡ accepted cs) × Member c cs)
  unfolding contributions_of_all
  given_members [] all e c = (
    λ member. absurd (none_in_empty (rw (sym (accepted_same [] all e)) at member)),
    λ (text, member, _, _, _). absurd (none_in_empty member),
  )
  given_members (text ∷ texts) all e c =
      let (cs, others, one, rest, same) = texts_parts text texts all e in
      let more = given_members texts others rest c in (
        λ member.
            ⊎_elim
            (λ m. (text, here refl, cs, one, m))
            (λ m. let (other, in-texts, ds, given, in-ds) = more.0 m in (other, later in-texts, ds, given, in-ds))
            (left-or-right cs (rw (sym same) at member)),
        λ (other, member, ds, given, in-ds).
            rw (sym same)
            (⊎_elim
            (λ (q : other ≡ text). let these : ds ≡ cs = accepted_same ds cs (sym given ∙ (ap (contributions_of items) q ∙ one)) in in_left others (rw these at in-ds))
            (λ m. in_right cs (more.1 (other, m, ds, given, in-ds)))
            (here-or-later member)),
      )

  -- each of them has contributions
  each_gives :
      (texts : List (List ℕ)) (all : List (List Row))
      → contributions_of_all items texts ≡ accepted all
      → (text : List ℕ)
      → Member text texts
      → (cs : List (List Row)) × (contributions_of items text ≡ accepted cs)
  each_gives [] all e text member = absurd (none_in_empty member)
  each_gives (first ∷ texts) all e text member =
      let (cs, others, one, rest, same) = texts_parts first texts all e in
      ⊎_elim (λ (q : text ≡ first). (cs, ap (contributions_of items) q ∙ one)) (λ m. each_gives texts others rest text m) (here-or-later member)

  -- and where each has, all together have
  all_give :
      (texts : List (List ℕ))
      → ((text : List ℕ) → Member text texts → (cs : List (List Row)) × (contributions_of items text ≡ accepted cs))
      → (all : List (List Row)) × (contributions_of_all items texts ≡ accepted all)
  unfolding contributions_of_all
  all_give [] each = ([], refl)
  all_give (text ∷ texts) each =
      let (cs, one) = each text (here refl) in
      let (others, rest) = all_give texts (λ other member. each other (later member)) in
      (cs ++ others, rw (one, rest))

  -- the contributions of texts are lawful
  pub texts_lawful :
      GoodSchema items → (texts : List (List ℕ)) (all : List (List Row)) → contributions_of_all items texts ≡ accepted all → Contributions all
  unfolding contributions_of_all Contributions
  texts_lawful schema [] all e = rw (sym (accepted_same [] all e)) tt
  texts_lawful schema (text ∷ texts) all e =
      let (cs, others, one, rest, same) = texts_parts text texts all e in
      rw (sym same) (contributions_append cs others (text_lawful items schema text cs one) (texts_lawful schema texts others rest))

  -- the same texts in any order, with any repeats, have the same contributions
  pub same_given :
      (texts others : List (List ℕ)) (cs : List (List Row))
      → contributions_of_all items texts ≡ accepted cs
      → ((text : List ℕ) → Member text texts ↔ Member text others)
      → (ds : List (List Row)) × (contributions_of_all items others ≡ accepted ds) × ((c : List Row) → Member c cs ↔ Member c ds)
  same_given texts others cs given same =
      let (ds, again) = all_give others (λ text member. each_gives texts cs given text ((same text).1 member)) in (
        ds,
        again,
        λ c. (
          λ member.
              let (text, of_texts, es, gives, in-es) = (given_members texts cs given c).0 member in
              (given_members others ds again c).1 (text, (same text).0 of_texts, es, gives, in-es),
          λ member.
              let (text, of_others, es, gives, in-es) = (given_members others ds again c).0 member in
              (given_members texts cs given c).1 (text, (same text).1 of_others, es, gives, in-es),
        ),
      )
