-- `name_table::finding::find_name` meets its contract: the word that the search finds says where the name stands.
use Prim.Native.Nat.{ℕ, ◌<◌}
use native.Mathlib.Omega.{arith}
use native.Mathlib.Nat.{sub-zero}
use mathlib.Core.List.{List}
use mathlib.Core.Path.{◌≡◌, sym, ap, ◌∙◌}
use lib.ListN.{length, get_or}
use Rattle.std.specs.Result.{result_ok}
use Rattle.std.specs.Prelude.{Some}
use Rattle.words.specs.Keys.{searched}
use Rattle.words.specs.Runs.{words_in}
use Rattle.name_table.specs.ReadLaws.{no_words, no_key, place_inside, no_place, at_place}
use Rattle.name_table.proofs.finding.find_name.Goals as goal
use Rattle.name_table.proofs.finding.find_name.Goals.{In_ok-count, In_ok-words, In_ok-place}

-- where the count in front of the words is one that they are enough for
few : (c : In_ok-words) → get_or c.args.names.now 0 0 < length c.args.names.now
few c =
    let first = ap (λ (l : List ℕ). get_or l 0 0) c.in_ok-count.ensures.cases.0 in
    omega (arith, first, c.in_ok-count.ensures.cases.1, c.in_ok-words.ensures.lookup)

counted : (c : In_ok-words) → c.in_ok-words.words.now ≡ words_in c.args.names.now
counted c = rw (c.in_ok-count.ensures.cases.0) (rw sub-zero at c.in_ok-words.ensures.lookup.0.2)

searched-all : (c : In_ok-place) → result_ok (searched c.in_ok-words.words.now c.args.key) ≡ Some c.in_ok-place.place
searched-all c = ap result_ok (sym c.search_key.ensures) ∙ sym c.ok.ensures.value ∙ c.in_ok-place.was

pub returns-in_err-count-clause-value : goal.returns-in_err-count-clause-value
returns-in_err-count-clause-value c = rw c.from_residual.ensures (no_words c.args.text.now c.args.names.now c.args.key (omega (arith, c.in_err-count.ensures.cases)))

pub returns-in_err-words-clause-value : goal.returns-in_err-words-clause-value
returns-in_err-words-clause-value c =
    let first = ap (λ (l : List ℕ). get_or l 0 0) c.in_ok-count.ensures.cases.0 in
    rw c.from_residual-in_err-words.ensures (no_words c.args.text.now c.args.names.now c.args.key (omega (arith, first, c.in_ok-count.ensures.cases.1, c.in_err-words.ensures.lookup)))

pub returns-in_err-place-clause-value : goal.returns-in_err-place-clause-value
returns-in_err-place-clause-value c =
    let p = (goal.at.returns-in_err-place-clause-value c).In_ok-words in
    rw c.from_residual-in_err-place.ensures (no_key c.args.text.now c.args.names.now c.args.key (few p) (counted p) (ap result_ok (sym c.search_key.ensures) ∙ sym c.ok.ensures.value ∙ c.in_err-place.was))

pub offset_bounds-words-place : goal.offset_bounds-words-place
offset_bounds-words-place c =
    let p = (goal.at.offset_bounds-words-place c).In_ok-words in
    let inside = place_inside c.args.text.now c.args.names.now c.args.key (few p) (counted p) _ (searched-all (goal.at.offset_bounds-words-place c).In_ok-place) in
    omega (arith, inside, c.in_ok-count.ensures.cases.1, c.in_ok-words.ensures.lookup)

pub bounds-words-place : goal.bounds-words-place
bounds-words-place c =
    let p = (goal.at.bounds-words-place c).In_ok-words in
    place_inside c.args.text.now c.args.names.now c.args.key (few p) (counted p) _ (searched-all (goal.at.bounds-words-place c).In_ok-place)

pub returns-then-text-to-clause-value : goal.returns-then-text-to-clause-value
returns-then-text-to-clause-value c =
    let p = (goal.at.returns-then-text-to-clause-value c).In_ok-words in
    no_place c.args.text.now c.args.names.now c.args.key (few p) (counted p) _ (searched-all (goal.at.returns-then-text-to-clause-value c).In_ok-place) (omega (arith, c.if-text-to.true, c.of-named.ensures))

pub returns-clause-value : goal.returns-clause-value
returns-clause-value c =
    let p = (goal.at.returns-clause-value c).In_ok-words in
    rw (c.of-named.ensures.from, c.of-named.ensures.size)
    (at_place c.args.text.now c.args.names.now c.args.key (few p) (counted p) _ (searched-all (goal.at.returns-clause-value c).In_ok-place) (omega (arith, c.if-text-to.false, c.of-named.ensures)))
