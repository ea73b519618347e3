-- `fields_at` meets its contract.
use Rattle.ett.proofs.FieldLaws.{fields_are}
use Rattle.ett.proofs.table.fields_at.Goals as goal

pub returns : goal.returns
returns c = fields_are _ _ _ _ _ _ c.long.ensures.1.1 c.saturating_sub.ensures
