-- `put_field` meets its contract.
use Rattle.shown.specs.Ascii.{field}
use Rattle.shown.proofs.PutLaws.{put_then}
use Rattle.shown.proofs.put.put_field.Goals as goal

-- src/put.rt:56:1
pub returns : goal.returns
unfolding field
returns c = put_then c.put_all-m.ensures c.put_number.ensures
