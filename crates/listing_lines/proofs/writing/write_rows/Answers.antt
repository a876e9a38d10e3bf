-- `listing_lines::writing::write_rows` meets its contract: at each turn the lines that are left lead to all lines.
use Rattle.rows.specs.WordLaws.{word_at}
use Rattle.listing_lines.specs.WriteLaws.{leads_all, leads_room, leads_next}
use Rattle.listing_lines.proofs.writing.write_rows.Goals as goal

pub write_row-at-requires : goal.write_row-at-requires
write_row-at-requires c = (word_at _ _ c.requires.0 c.loop-word-test.true, leads_room c.loop-word.invariant c.loop-word-test.true c.requires.1)

pub loop-word-preserved : goal.loop-word-preserved
loop-word-preserved c = leads_next c.loop-word.invariant c.loop-word-test.true c.write_row-at.ensures

pub returns : goal.returns
returns c = leads_all c.loop-word.invariant c.loop-word-test.false
