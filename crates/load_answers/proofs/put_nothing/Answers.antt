-- `load_answers::put_nothing` puts no more than there is room for.
use Rattle.std.proofs.Common.{arith, length-set}
use Rattle.load_answers.proofs.put_nothing.Goals as goal

pub returns : goal.returns
returns c = simp length-set (omega arith)
