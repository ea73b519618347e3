-- `put_times` meets its contract.
use mathlib.Core.Path.{◌∙◌}
use Rattle.eit.specs.Fields.{times_row}
use Rattle.eit.proofs.HeadLaws.{id_is, start_is, etm_is, seconds_is}
use Rattle.eit.proofs.numbers.put_times.Goals as goal

pub returns : goal.returns
unfolding times_row
returns c = let x = c.byte-x.ensures.1.1 in
    let id = c.narrow.ensures ∙ id_is _ _ c.word.ensures.1.1 in
    let start = c.narrow-2.ensures ∙ start_is _ _ c.long.ensures.1.1 in
    let etm = c.narrow-3.ensures ∙ etm_is _ _ x in
    let seconds = c.narrow-4.ensures ∙ seconds_is _ _ x c.word-2.ensures.1.1 in
    c.put_all.ensures ∙ rw (id, start, etm, seconds)
