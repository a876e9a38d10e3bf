-- `row_walk::scan::is_child` meets its contract: a step below 65,536 is a field.
use Rattle.row_walk.specs.ScanLaws.{child_field, child_root}
use Rattle.row_walk.proofs.scan.is_child.Goals as goal

pub returns-then-step-lt65536 : goal.returns-then-step-lt65536
returns-then-step-lt65536 c = child_field c.args.fields c.args.step c.if-step-lt65536.true

pub returns : goal.returns
returns c = child_root c.args.fields c.args.step c.if-step-lt65536.false
