-- `put_header` meets its contract: nine bytes, three by three.
use Rattle.section.proofs.WritingLaws.{header_room, header_put}
use Rattle.section.proofs.inner.put_header.Goals as goal

pub extension_and_version-requires : goal.extension_and_version-requires
extension_and_version-requires c =
    let r = header_room c.args.g c.requires.0 in
    (r.extension, (r.version, r.current))

pub numbers_and_protocol-requires : goal.numbers_and_protocol-requires
numbers_and_protocol-requires c =
    let r = header_room c.args.g c.requires.0 in
    (r.number, r.last)

pub returns : goal.returns
returns c =
    header_put c.args.out.now c.args.kind c.args.g c.args.n _ _ _ _
    c.table_id.ensures c.id_and_length.ensures
    c.extension_and_version.ensures c.numbers_and_protocol.ensures
    c.put_number.ensures c.put_number-2.ensures c.put_number-3.ensures
