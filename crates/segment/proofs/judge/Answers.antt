-- `segment::judge` meets its contract.
use Rattle.segment.proofs.WholeLaws.{whole_units, whole_refused}
use Rattle.segment.proofs.judge.Goals as goal

pub returns-then-r-lt4096 : goal.returns-then-r-lt4096
returns-then-r-lt4096 c =
    whole_units c.requires c.coded-r.ensures c.if-r-lt4096.true

pub returns : goal.returns
returns c =
    whole_refused c.requires c.coded-r.ensures c.if-r-lt4096.false
