-- `gather` meets its contract: four times four records, and the book of them.
use mathlib.Core.Path.{◌∙◌}
use Rattle.lent_memory.proofs.GatherLaws.{sixteen_watches}
use Rattle.lent_memory.proofs.records.gather.Goals as goal

pub returns : goal.returns
returns c =
    let e = rw (c.fours-p.ensures, c.fours-q.ensures, c.fours-r.ensures, c.fours-t.ensures) at c.book_of.ensures.1 in
    (c.book_of.ensures.0, e ∙ sixteen_watches _)
