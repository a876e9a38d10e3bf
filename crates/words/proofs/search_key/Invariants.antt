use Rattle.words.specs.KeyLaws.{KeySought}
use Rattle.words.proofs.search_key.Given as goal

abbrev pub invariant-loop-i : goal.invariant-loop-i
invariant-loop-i l = KeySought l.words l.key l.i
