-- Demand 3 for policy texts (Policies). Only the statements need be read: PolicyLaws has the proofs. `add_policies items [] texts` is the
-- manifest after all contributions of the texts are analysed and added in order to an empty one, or the first refusal; `contributions_of
-- items text` are the contributions of one text. `GoodSchema items`: the items of a schema's text that is accepted (part 4).
use Rattle.std.specs.Prelude.{ℕ, ◌≡◌, refl, ◌↔◌}
use Rattle.std.proofs.Common.{sym, ap, ◌∙◌}
use mathlib.Core.Logic.Iff
use mathlib.Core.List.{List, [], Memᴰ as Member}
use Rattle.rules.specs.Numbers.{accepted}
use Rattle.rules.specs.Tries.{Row, Has, Marked}
use Rattle.rules.specs.Building.{build, accepted_of, Contributions}
use Rattle.rules.specs.Listing.{listing}
use Rattle.rules.specs.Schema.{Item, read_schema}
use Rattle.rules.proofs.SchemaLaws.{schema_text_good}
use Rattle.rules.proofs.StepLaws.{GoodSchema}
use Rattle.rules.proofs.Demand3.{order_free, exactly_those}
use Rattle.rules.specs.Policies.{contributions_of, add_policy, add_policies}
use Rattle.rules.proofs.PolicyLaws.{text_lawful, texts_lawful, contributions_of_all, policy_adds, policies_add, given_members, same_given}
pub use Rattle.rules.specs.Demand3Policies.{ContributionOf}

-- 1. A policy text is added exactly where its contributions are given and all of them are accepted, one after the other; then the manifest
-- is their build.
pub policy_added_exactly :
    (items : List Item) (m : List Row) (text : List ℕ) (rows : List Row)
    → (add_policy items m text ≡ accepted rows)
    ↔ ((cs : List (List Row)) × (contributions_of items text ≡ accepted cs) × ((accepted_of m cs ≡ cs) × (rows ≡ build m cs)))
policy_added_exactly items m text rows = policy_adds items text m rows

module _ (items : List Item) (schema : GoodSchema items) where
  -- The contributions of a policy text are lawful.
  pub policy_lawful : (text : List ℕ) (cs : List (List Row)) → contributions_of items text ≡ accepted cs → Contributions cs
  policy_lawful = text_lawful items schema

  -- 2. Where all of some policy texts are accepted, the same ones in any order, with any repeats, are all accepted too, and the
  -- manifest has the same listing, byte for byte.
  pub policies_order_free :
      (texts others : List (List ℕ)) (rows : List Row)
      → add_policies items [] texts ≡ accepted rows
      → ((text : List ℕ) → Member text texts ↔ Member text others)
      → (again : List Row) × (add_policies items [] others ≡ accepted again) × (listing again ≡ listing rows)
  policies_order_free texts others rows e same =
      let (cs, given, (all, built)) = (policies_add items texts [] rows).0 e in
      let (ds, given-again, members) = same_given items texts others cs given same in
      let (every, listed) = order_free cs ds (texts_lawful items schema texts cs given) all members in
      (build [] ds, (policies_add items others [] (build [] ds)).1 (ds, given-again, (every, refl)), listed ∙ ap listing (sym built))

  -- 3. The manifest has a place exactly if some contribution of the texts has it, and marks it likewise.
  pub policies_exactly_those :
      (texts : List (List ℕ)) (rows : List Row)
      → add_policies items [] texts ≡ accepted rows
      → (place : List ℕ)
      → (Has [] rows place ↔ ((c : List Row) × ContributionOf items texts c × Has [] c place))
      × (Marked [] rows place ↔ ((c : List Row) × ContributionOf items texts c × Marked [] c place))
  policies_exactly_those texts rows e place =
      let (cs, given, (all, built)) = (policies_add items texts [] rows).0 e in
      let (has, marked) = rw (all, ← built) at (exactly_those cs (texts_lawful items schema texts cs given) place) in
      (Iff.trans has (of_texts cs given (λ c. Has [] c place)), Iff.trans marked (of_texts cs given (λ c. Marked [] c place)))
    where
      of_texts :
          (cs : List (List Row))
          → contributions_of_all items texts ≡ accepted cs
          → (P : List Row → Type 0)
          → ((c : List Row) × Member c cs × P c) ↔ ((c : List Row) × ContributionOf items texts c × P c)
      of_texts cs given P = (
        λ (c, member, p). (c, (given_members items texts cs given c).0 member, p),
        λ (c, of, p). (c, (given_members items texts cs given c).1 of, p),
      )

-- 4. From texts alone: any schema's text that is accepted gives such items.
pub order_free_from_texts :
    (schema : List ℕ) (items : List Item)
    → read_schema schema ≡ accepted items
    → (texts others : List (List ℕ)) (rows : List Row)
    → add_policies items [] texts ≡ accepted rows
    → ((text : List ℕ) → Member text texts ↔ Member text others)
    → (again : List Row) × (add_policies items [] others ≡ accepted again) × (listing again ≡ listing rows)
order_free_from_texts schema items e = policies_order_free items (schema_text_good schema items e)
