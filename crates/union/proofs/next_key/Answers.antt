-- `union::next_key` meets its contract: the smaller of two keys.
use Rattle.union.specs.MergeLaws.{next_key_min}
use Rattle.union.proofs.next_key.Goals as goal

pub returns : goal.returns
returns c = rw (c.min.ensures, c.key_at.ensures, c.key_at-2.ensures, next_key_min)
