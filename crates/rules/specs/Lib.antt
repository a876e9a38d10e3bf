-- Document 01 as definitions: what the contracts of every crate cite, and what a reader has to believe. One file a section.
--
-- How to read them. A definition has its type on a line with `:`, and then an equation for each case; the first that fits counts.
--   ℕ, Bool, List A, Option A    numbers from 0; true or false; a list, [] or first ∷ rest; none or some a
--   A → B → C                    a function of an A and a B that gives a C; `f a b` applies it, and λ x. e is a function without a name
--   A × B, (x : A) × B x         both; an x with what is said of it.  A ⊎ B  one of the two.  A ↔ B  each gives the other
--   a ≡ b                        a and b are equal; ⊥ is false, so A → ⊥ says that A is not so; Unit is true
--   record, .name                some named parts, and the part of that name
--   cond test a b                a where the test is true, otherwise b
--   elim e [ case ↦ a | .. ]     what e is decides; each case names the parts of e
--   eqb, leb, ltb                the tests for equal, at most, below; && || not join them
--   do x ← e; rest               where e is none the whole is none, otherwise x is what e has; `>>=` says the same
--   accepted a, refused n p      an answer: a result, or the refusal n at place p; and_then goes on with a result
--   a ++ b, take n l, drop n l   a and then b; the first n of l; l without them; get_or l n d is the n-th from 0, or d where there is none
--   abbrev, unfoldable           a name that is the same as what it stands for; one that a proof opens only where it says so
--   pub, mod, use                seen from other files; files; names taken from them
-- A quoted 'sentence' is document 01's; a name in `backticks` is the Rust's.
pub mod Numbers
pub mod Text
pub mod Lines
pub mod Tries
pub mod Facts
pub mod Walks
pub mod Building
pub mod Listing
pub mod Schema
pub mod Paths
pub mod Steps
pub mod Typing
pub mod Policies
pub mod Values
pub mod ValueRows
pub mod ValueRowTests
pub mod Loading
pub mod WalkRows
pub mod LoadCalls
pub mod Trips
pub mod ValueTexts
pub mod Names
pub mod Demand3Listed
pub mod BuildingLaws
pub mod CourseLaws
pub mod Demand3Policies
pub mod LineLaws
pub mod ListingLaws
pub mod MergeLaws
pub mod PlaceLaws
pub mod PolicyLaws
pub mod SchemaLaws
pub mod SliceLaws
pub mod StepLaws
pub mod TakeLaws
pub mod TextLaws
pub mod TrieLaws
pub mod TripLaws
pub mod TypeLaws
pub mod TypingLaws
pub mod TypingPlaceLaws
pub mod ValueRowLaws
pub mod ValueRowTestLaws
pub mod ValueTextLaws
pub mod WalkLaws
pub mod WalkRowLaws
