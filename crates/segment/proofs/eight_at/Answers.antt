-- `eight_at` meets its contract.
use Rattle.segment.proofs.WindowLaws.{eight_bits}
use Rattle.segment.proofs.eight_at.Goals as goal

pub returns : goal.returns
returns c =
    let a = c.args in
    eight_bits a.s.now a.at c.window.result c.window.ensures c.requires
