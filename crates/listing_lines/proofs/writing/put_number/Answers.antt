-- `listing_lines::writing::put_number` meets its contract: the store after the decimal is the byte that ends it.
use Rattle.rules.specs.Text.{decimal}
use Rattle.words.specs.RunLaws.{wrote_ended}
use Rattle.listing_lines.proofs.writing.put_number.Goals as goal

pub returns : goal.returns
returns c = let s = c.args in wrote_ended s.out.now (decimal s.number) s.at s.end c.write_decimal-next.ensures
