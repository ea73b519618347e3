-- `window` meets its contract.
use Rattle.segment.proofs.WindowLaws.{window_made}
use Rattle.segment.proofs.window.Goals as goal

pub returns : goal.returns
returns c =
    let a = c.args in
    window_made a.s.now a.at c.byte.result c.byte-2.result c.byte.ensures.0 c.byte-2.ensures.0 c.byte-2.ensures.1.0
