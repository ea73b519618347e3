-- `event_at` meets its contract.
use Rattle.eit.specs.Fields.{event_at}
use Rattle.eit.proofs.HeadLaws.{id_is, start_is, etm_is, seconds_is}
use Rattle.eit.proofs.event.event_at.Goals as goal

pub returns : goal.returns
unfolding event_at
returns c = let x = c.byte-x.ensures.1.1 in
    let id = id_is _ _ c.word.ensures.1.1 in
    let start = start_is _ _ c.long.ensures.1.1 in
    let seconds = seconds_is _ _ x c.word-2.ensures.1.1 in
    rw (id, start, etm_is _ _ x, seconds, c.title_at-title.ensures, c.descriptors_at-descriptors.ensures.0)
