-- `name_table::reading::take_line` meets its contract: the line is judged by its form, its key and its name, in this order.
use Prim.Native.Nat.{◌-◌, ◌<◌, ◌+◌}
use native.Mathlib.Omega.{arith}
use mathlib.Core.List.{map}
use mathlib.Core.Path.{sym, ◌∙◌}
use lib.ListN.{take, drop}
use Rattle.name_table.specs.Words.{named_in}
use Rattle.name_table.specs.Lines.{NameParsed}
use Rattle.name_table.specs.ReadLaws.{line_size, not_formed, starts_inside, some_name, too_low, name_again, name_new}
use Rattle.name_table.proofs.reading.take_line.Goals as goal
use Rattle.name_table.proofs.reading.take_line.Goals.{In_ok-key}

-- what the line was read as, and that its name stands in front of its end
parsed : (c : In_ok-key) →
    let a = c.args in
    NameParsed (take (a.end - a.at) (drop a.at a.text.now)) c.in_ok-key.key c.in_ok-key.start
parsed c = rw c.in_ok-key.was at c.parse.ensures

starts : (c : In_ok-key) → c.args.at + c.in_ok-key.start < c.args.end
starts c =
    starts_inside c.args.text.now c.args.at c.args.end c.args.least (map named_in c.args.words.now) c.requires.0 c.requires.1 (parsed c)

pub returns-in_err-key : goal.returns-in_err-key
returns-in_err-key c =
    rw c.from_residual.ensures
    (record { result_value = not_formed c.args.text.now _ _ _ _ c.requires.0 c.requires.1 (rw c.in_err-key.was at c.parse.ensures); long = tt })

pub returns-then-key-least : goal.returns-then-key-least
returns-then-key-least c =
    record { result_value = too_low c.args.text.now _ _ _ _ c.requires.0 c.requires.1 (parsed (goal.at.returns-then-key-least c).In_ok-key) c.if-key-least.true; long = tt }

pub overflow_add-from : goal.overflow_add-from
overflow_add-from c = omega (arith, starts (goal.at.overflow_add-from c).In_ok-key, c.requires)

pub slice_bounds-is_taken-count : goal.slice_bounds-is_taken-count
slice_bounds-is_taken-count c = omega (arith, starts (goal.at.slice_bounds-is_taken-count c).In_ok-key)

pub slice_bounds-is_taken-start : goal.slice_bounds-is_taken-start
slice_bounds-is_taken-start c = omega (arith, starts (goal.at.slice_bounds-is_taken-start c).In_ok-key)

pub slice_bounds-is_taken-end : goal.slice_bounds-is_taken-end
slice_bounds-is_taken-end c = omega (arith, starts (goal.at.slice_bounds-is_taken-end c).In_ok-key, c.requires)

pub is_taken-requires : goal.is_taken-requires
is_taken-requires c =
    some_name c.args.text.now c.args.at c.args.end c.args.least (map named_in c.args.words.now) c.requires.0 c.requires.1 (parsed (goal.at.is_taken-requires c).In_ok-key)

pub returns-then-is_taken : goal.returns-then-is_taken
returns-then-is_taken c =
    record { result_value = name_again c.args.text.now _ _ _ _ c.requires.0 c.requires.1 (parsed (goal.at.returns-then-is_taken c).In_ok-key) c.if-key-least.false (sym c.is_taken.ensures ∙ c.if-is_taken.true); long = tt }

pub returns : goal.returns
returns c =
    rw c.word.ensures
    (record { result_value = name_new c.args.text.now _ _ _ _ c.requires.0 c.requires.1 (parsed (goal.at.returns c).In_ok-key) c.if-key-least.false c.requires.2 (sym c.is_taken.ensures ∙ c.if-is_taken.false); long = omega (arith, (parsed (goal.at.returns c).In_ok-key).long, line_size c.args.text.now c.args.at c.args.end c.args.least (map named_in c.args.words.now) c.requires.0 c.requires.1) })
