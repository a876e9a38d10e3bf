-- `load_answers::answer_requests` is safe: no set passes the end of what is lent.
use Rattle.std.proofs.Common.{◌≡◌, ◌≤◌, length}
use Rattle.load_answers.proofs.answer_requests.Given as goal

abbrev pub invariant-loop-i : goal.invariant-loop-i
invariant-loop-i l = (l.ids ≤ length l.requests) × ((l.at ≤ length l.sets) × (length l.sets ≡ length l.initial.sets))
