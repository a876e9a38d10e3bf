-- Demand 3 as it is read: the listing of a manifest that was built, read again, has the places and the marks of the accepted contributions
-- and no others. Only the statements `listed_exactly` and `listed_exactly_of` need be read; Demand3 says what their words mean.
use Rattle.std.specs.Prelude.{ℕ, ◌≡◌, ◌↔◌}
use Rattle.std.proofs.Common.{sym, ◌∙◌}
use mathlib.Core.Logic.Iff
use mathlib.Core.List.{List, [], ◌∷◌, map}
use Rattle.rules.specs.Numbers.{accepted}
use Rattle.rules.specs.Facts.{either, accepted_same}
use Rattle.rules.specs.Tries.{Row, Has, Marked, at, manifest}
use Rattle.rules.proofs.TrieLaws.{bare}
use Rattle.rules.specs.Building.{build, Contributions}
use Rattle.rules.specs.Listing.{listing, read_listing}
use Rattle.rules.proofs.ListingLaws.{manifest_written_read}
use Rattle.rules.specs.Demand3Listed.{ExactlyThose}
use Rattle.rules.proofs.Demand3.{exactly_those, build_is_lawful}

-- rows without their types have the same places and marks
bare_has : (s : List ℕ) (rows : List Row) (place : List ℕ) → Has s (map bare rows) place ↔ Has s rows place
unfolding Has
bare_has s [] place = Iff.rfl
bare_has s (row ∷ rows) place = either Iff.rfl (bare_has (at s row) rows place)

bare_marked : (s : List ℕ) (rows : List Row) (place : List ℕ) → Marked s (map bare rows) place ↔ Marked s rows place
unfolding Marked
bare_marked s [] place = Iff.rfl
bare_marked s (row ∷ rows) place = either Iff.rfl (bare_marked (at s row) rows place)

module _ (cs : List (List Row)) (lcs : Contributions cs) where
  -- Reading the listing of a build accepts rows, and they have exactly the places and marks of the accepted contributions.
  pub listed_exactly : (rows : List Row) × (read_listing manifest (listing (build [] cs)) ≡ accepted rows) × ExactlyThose cs rows
  listed_exactly = (
    map bare (build [] cs),
    manifest_written_read (build [] cs) (build_is_lawful cs lcs),
    λ place. (
      Iff.trans (bare_has [] (build [] cs) place) (exactly_those cs lcs place).0,
      Iff.trans (bare_marked [] (build [] cs) place) (exactly_those cs lcs place).1,
    ),
  )

  -- So do any rows that reading it accepts.
  pub listed_exactly_of : (rows : List Row) → read_listing manifest (listing (build [] cs)) ≡ accepted rows → ExactlyThose cs rows
  listed_exactly_of rows e =
      let (again, f, exactly) = listed_exactly in
      let same : rows ≡ again = accepted_same rows again (sym e ∙ f) in
      rw same exactly
