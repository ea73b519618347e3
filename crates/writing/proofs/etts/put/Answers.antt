-- `put` meets its contract: header, body and checksum, one after the other.
use Rattle.kind.specs.declared.Kind.TheVariants.{Ett}
use Rattle.format.specs.Formats.{any_bytes}
use Rattle.ett.specs.Format.{ett_of}
use Rattle.section.proofs.WritingLaws.{assembled}
use Rattle.writing.specs.Written.{ett_bytes}
use Rattle.writing.proofs.EttLaws.{body_length}
use Rattle.writing.proofs.etts.put.Goals as goal

pub returns : goal.returns
unfolding ett_bytes
returns c =
    let g = c.args in
    assembled g.out.now Ett g.g ((ett_of any_bytes).enc (record { etm = g.etm; text = g.t.now })) _
    (body_length g.g g.etm g.t.now) c.requires.0.room
    c.put_header.ensures c.put_body.ensures c.seal.ensures
