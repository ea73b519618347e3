-- `put_escaped` meets its contract.
use Rattle.shown.proofs.PutLaws.{put_then}
use Rattle.shown.proofs.TitleLaws.{escaped_is}
use Rattle.shown.proofs.title.put_escaped.Goals as goal

pub returns : goal.returns
returns c =
    let p = put_then c.put_all-m.ensures (put_then c.put_hex-low.ensures c.put_hex.ensures) in
    rw (escaped_is _) at p
