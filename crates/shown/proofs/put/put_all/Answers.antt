-- `put_all` meets its contract.
use Rattle.shown.proofs.PutLaws.{put_more}
use Rattle.shown.proofs.put.put_all.Goals as goal

pub loop-b-preserved : goal.loop-b-preserved
loop-b-preserved c = put_more c.args.bytes.now c.loop-b.b-index c.loop-b-test.true c.loop-b.invariant c.put-m.ensures
