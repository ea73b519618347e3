-- `length_with` meets its contract.
use Rattle.writing.proofs.EttLaws.{text_long}
use Rattle.writing.proofs.etts.length_with.Goals as goal

pub returns-then-n-gt4096 : goal.returns-then-n-gt4096
returns-then-n-gt4096 c = text_long _ _ c.if-n-gt4096.true
