-- `seal` meets its contract.
use Rattle.section.proofs.WritingLaws.{seal_put}
use Rattle.section.proofs.inner.seal.Goals as goal

pub returns : goal.returns
returns c =
    let g = c.args in
    seal_put g.out.now g.n c.part_of.ensures c.register_of-checksum.ensures c.put_number.ensures
