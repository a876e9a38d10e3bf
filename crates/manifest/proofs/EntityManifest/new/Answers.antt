-- `manifest::EntityManifest::new` meets its contract: by the length.
use Rattle.words.specs.RunLaws.{by_parts}
use Rattle.manifest.specs.UniteLaws.{empty_short, empty_long}
use Rattle.manifest.proofs.EntityManifest.new.Goals as goal

pub returns-then-out-lt-WORDS : goal.returns-then-out-lt-WORDS
returns-then-out-lt-WORDS c = by_parts (empty_short _ c.if-out-lt-WORDS.true)

pub returns : goal.returns
returns c = by_parts (empty_long _ c.if-out-lt-WORDS.false)
