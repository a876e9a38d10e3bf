-- `name_table::reading::read_names` meets its contract: the words that were read are copied with their count in front.
use Prim.Native.Nat.{ℕ, ◌≤◌, ◌<◌}
use native.Mathlib.Omega.{arith}
use mathlib.Core.List.{List, map}
use mathlib.Core.Path.{◌≡◌, ap, ◌∙◌}
use lib.ListN.{length, length-set}
use lib.Seq.{sets}
use Rattle.std.proofs.lemmas.Result.{err_from_is_err_and}
use Rattle.rules.specs.Numbers.{accepted}
use Rattle.words.specs.Runs.{stored}
use Rattle.words.specs.RunLaws.{by_parts, counted, copied}
use Rattle.rules.specs.Names.{read_names}
use Rattle.name_table.specs.Words.{named_in}
use Rattle.name_table.specs.ReadLaws.{names_short, names_long, names_refused, names_stored}
use Rattle.name_table.proofs.reading.read_names.Goals as goal
use Rattle.name_table.proofs.reading.read_names.Goals.{In_ok-count}

pub returns-then-out-lt-WORDS : goal.returns-then-out-lt-WORDS
returns-then-out-lt-WORDS c = let a = c.args in by_parts (names_short a.text.now a.out.now c.if-out-lt-WORDS.true)

pub returns-then-text-gt-BYTES : goal.returns-then-text-gt-BYTES
returns-then-text-gt-BYTES c =
    let a = c.args in
    by_parts (names_long a.text.now a.out.now c.if-out-lt-WORDS.false c.if-text-gt-BYTES.true)

-- what was read, where it is lines: their words are stored, and fit a state
lines_read : (c : In_ok-count) →
    accepted (map named_in (stored c.in_ok-count.count c.read_lines.new.words))
    ≡ read_names c.args.text.now
lines_read c = rw c.in_ok-count.was at c.read_lines.ensures.words_after

count_fits : (c : In_ok-count) → c.in_ok-count.count < length c.read_lines.new.words
count_fits c =
    let few : c.in_ok-count.count ≤ 10922 = rw c.in_ok-count.was at c.read_lines.ensures.result_bound in
    omega (arith, few, c.read_lines.auto.words)

pub copy_rows-requires : goal.copy_rows-requires
copy_rows-requires c =
    let few = count_fits (goal.at.copy_rows-requires c).In_ok-count in
    rw (counted c.read_lines.new.words c.in_ok-count.count few)
    (simp length-set few, omega (arith, few, c.read_lines.auto.words, c.if-out-lt-WORDS.false))

pub returns-in_err-count : goal.returns-in_err-count
returns-in_err-count c =
    let a = c.args in
    let handed = err_from_is_err_and c.from_residual.result c.from_residual.ensures.1 in
    rw (handed.1, handed.2)
    (by_parts
    (names_refused a.text.now a.out.now c.if-out-lt-WORDS.false c.if-text-gt-BYTES.false (rw c.in_err-count.was at c.read_lines.ensures.words_after)))

pub returns : goal.returns
returns c =
    let a = c.args in
    let read = (goal.at.returns c).In_ok-count in
    let (reply, buffer) =
    by_parts (names_stored a.text.now a.out.now c.if-out-lt-WORDS.false c.if-text-gt-BYTES.false (stored c.in_ok-count.count c.read_lines.new.words) (lines_read read)) in (
      reply,
      c.copy_rows.ensures ∙ ap (λ (l : List ℕ). sets a.out.now 0 l) (copied c.read_lines.new.words c.in_ok-count.count (count_fits read)) ∙ buffer,
    )
