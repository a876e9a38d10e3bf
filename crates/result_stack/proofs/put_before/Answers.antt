-- `result_stack::put_before` meets its contract: what was copied ends at the place.
use Rattle.result_stack.specs.StackLaws.{placed}
use Rattle.result_stack.proofs.put_before.Goals as goal

pub returns : goal.returns
returns c =
    placed c.args.words.now c.args.out.now c.args.end c.requires.0 c.requires.1 c.copy_words.ensures
