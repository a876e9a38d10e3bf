-- `schema_text::reading::read_schema` meets its contract: a text that was judged is stored by a second pass, and its count in front.
use mathlib.Core.Path.{refl}
use Rattle.words.specs.RunLaws.{by_parts}
use Rattle.schema_text.specs.ReadLaws.{schema_short, schema_refused, schema_stored}
use Rattle.std.proofs.lemmas.Result.{err_from_is_err_and}
use Rattle.schema_text.proofs.reading.read_schema.Goals as goal

pub returns-then-out-lt-WORDS : goal.returns-then-out-lt-WORDS
returns-then-out-lt-WORDS c = let a = c.args in by_parts (schema_short a.text.now a.out.now c.if-out-lt-WORDS.true)

pub returns-in_err-count : goal.returns-in_err-count
returns-in_err-count c =
    let a = c.args in
    let handed = err_from_is_err_and c.from_residual.result c.from_residual.ensures.1 in
    rw (handed.1, handed.2)
    (by_parts (schema_refused a.text.now a.out.now c.if-out-lt-WORDS.false (rw c.in_err-count.was at c.read_items.ensures.answered) (c.read_items.ensures.judged refl)))

pub returns : goal.returns
returns c =
    let a = c.args in
    by_parts
    (schema_stored a.text.now a.out.now c.if-out-lt-WORDS.false (rw c.in_ok-count.was at c.read_items.ensures.answered) (c.read_items.ensures.judged refl)
    c.read_items-2.ensures.left)
