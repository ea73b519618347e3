-- `judge_any` meets its contract: what inspecting finds, by its number alone.
use Rattle.section.proofs.SectionLaws.{plain_verdict}
use Rattle.section.proofs.judge.judge_any.Goals as goal

pub returns : goal.returns
returns c = rw (← plain_verdict _ _, ← c.inspect_any.ensures) c.plain.ensures
