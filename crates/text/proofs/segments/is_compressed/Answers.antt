-- `is_compressed` meets its contract: the other ways read plain bytes.
use Rattle.text.proofs.UnitLaws.{plain_else}
use Rattle.text.proofs.segments.is_compressed.Goals as goal

pub returns-in_default : goal.returns-in_default
returns-in_default c = λ q. plain_else c.args.way c.in_default.not-Titles c.in_default.not-Descriptions
