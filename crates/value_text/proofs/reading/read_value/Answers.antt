-- `value_text::reading::read_value` meets its contract: the words that were read are copied with their count in front.
use Prim.Native.Nat.{ℕ, ◌<◌}
use native.Mathlib.Omega.{arith}
use mathlib.Core.List.{List}
use mathlib.Core.Path.{◌≡◌, ap, ◌∙◌}
use lib.ListN.{length, drop, length-set}
use lib.Seq.{sets}
use Rattle.std.proofs.lemmas.Result.{err_from_is_err_and}
use Rattle.rules.specs.Numbers.{accepted}
use Rattle.rules.specs.Text.{lines_of}
use Rattle.rules.specs.ValueTexts.{value_from_lines}
use Rattle.words.specs.Runs.{stored}
use Rattle.words.specs.RunLaws.{by_parts, counted, copied}
use Rattle.values.specs.ValueWords.{value_rows_of}
use Rattle.value_text.specs.ReadLaws.{value_short, value_refused, value_stored}
use Rattle.value_text.proofs.reading.read_value.Goals as goal
use Rattle.value_text.proofs.reading.read_value.Goals.{In_ok-count}

pub returns-then-out-lt-WORDS : goal.returns-then-out-lt-WORDS
returns-then-out-lt-WORDS c = let a = c.args in by_parts (value_short a.place (drop a.from a.text.now) a.out.now c.if-out-lt-WORDS.true)

-- what was read, where it is rows: their words are stored, and fit a state
rows-read : (c : In_ok-count) →
    let a = c.args in
    accepted (value_rows_of (stored c.in_ok-count.count c.read_ordered.new.words))
    ≡ value_from_lines a.place (lines_of (drop a.from a.text.now))
rows-read c = rw c.in_ok-count.was at c.read_ordered.ensures.words_after

count_fits : (c : In_ok-count) → c.in_ok-count.count < length c.read_ordered.new.words
count_fits c =
    let few : c.in_ok-count.count < 8193 = rw c.in_ok-count.was at c.read_ordered.ensures.result_bound in
    omega (arith, few, c.read_ordered.auto.words)

pub copy_rows-requires : goal.copy_rows-requires
copy_rows-requires c =
    let few = count_fits (goal.at.copy_rows-requires c).In_ok-count in
    rw (counted c.read_ordered.new.words c.in_ok-count.count few)
    (simp length-set few, omega (arith, few, c.read_ordered.auto.words, c.if-out-lt-WORDS.false))

pub returns-in_err-count : goal.returns-in_err-count
returns-in_err-count c =
    let a = c.args in
    let handed = err_from_is_err_and c.from_residual.result c.from_residual.ensures.1 in
    rw (handed.1, handed.2)
    (by_parts
    (value_refused a.place (drop a.from a.text.now) a.out.now c.if-out-lt-WORDS.false
    (rw c.in_err-count.was at c.read_ordered.ensures.words_after)))

pub returns : goal.returns
returns c =
    let a = c.args in
    let read = (goal.at.returns c).In_ok-count in
    let (reply, buffer) =
    by_parts (value_stored a.place (drop a.from a.text.now) a.out.now c.if-out-lt-WORDS.false (stored c.in_ok-count.count c.read_ordered.new.words) (rows-read read)) in (
      reply,
      c.copy_rows.ensures ∙ ap (λ (l : List ℕ). sets a.out.now 0 l) (copied c.read_ordered.new.words c.in_ok-count.count (count_fits read)) ∙ buffer,
    )
