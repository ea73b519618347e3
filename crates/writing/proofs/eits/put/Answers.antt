-- `put` meets its contract: header, body and checksum, one after the other.
use native.Mathlib.Omega.{arith}
use Rattle.kind.specs.declared.Kind.TheVariants.{Eit}
use Rattle.format.specs.Formats.{any_bytes}
use Rattle.eit.specs.Format.{eit_of}
use Rattle.eit.specs.Given.{events_given}
use Rattle.section.proofs.WritingLaws.{assembled}
use Rattle.writing.specs.Written.{eit_bytes}
use Rattle.writing.proofs.EitLaws.{body_length}
use Rattle.writing.proofs.eits.put.Goals as goal

pub returns : goal.returns
unfolding eit_bytes
returns c =
    let g = c.args in
    let f = c.requires in
    let l = body_length g.g g.count g.rows.now g.bytes.now f.given.sound in
    assembled g.out.now Eit g.g ((eit_of any_bytes any_bytes).enc (record { events = events_given g.rows.now g.bytes.now g.count 0 })) _
    (omega (arith, l, f.whole)) (omega (arith, f.fits.room, f.whole))
    c.put_header.ensures c.put_body.ensures c.seal.ensures
