-- `load_answers::answer_rows` is safe: no answer passes the end of what is lent.
use Rattle.std.proofs.Common.{◌≡◌, ◌≤◌, length}
use Rattle.load_answers.proofs.answer_rows.Given as goal

abbrev pub invariant-loop-i : goal.invariant-loop-i
invariant-loop-i l = (l.at ≤ length l.answers) × (length l.answers ≡ length l.initial.answers)
