use Rattle.listing_lines.specs.WriteLaws.{Leads}
use Rattle.listing_lines.proofs.writing.write_rows.Given as goal

abbrev pub invariant-loop-word : goal.invariant-loop-word
invariant-loop-word l = Leads l.initial.out l.words l.out l.at l.word-index
