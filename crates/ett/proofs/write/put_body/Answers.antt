-- `put_body` meets its contract.
use Rattle.ett.proofs.WritingLaws.{body_put}
use Rattle.ett.proofs.write.put_body.Goals as goal

pub returns : goal.returns
returns c =
    let g = c.args in
    body_put g.etm g.text.now g.out.now g.at c.put_number.ensures c.put_part.ensures
