-- `batch_rows::lent::load_batch_rows` meets its contract: the slice begins with the rows of the words that `load_batch` handed out.
use Rattle.batch_rows.specs.RowLaws.{rows_short, rows_handed}
use Rattle.batch_rows.proofs.lent.load_batch_rows.Goals as goal

pub returns-then-out-lt-BATCH : goal.returns-then-out-lt-BATCH
returns-then-out-lt-BATCH c = rows_short _ _ c.if-out-lt-BATCH.true

pub returns : goal.returns
returns c =
    let (same_reply, same_state, same_out) = rows_handed _ _ _ c.args.out.now _ _ c.if-out-lt-BATCH.false c.load_batch-reply.ensures c.load_batch-reply.auto.out c.count_of.ensures in
    (same_reply, same_state, rw c.write_rows.ensures same_out)
