-- `check` meets its contract: the tests in their order.
use mathlib.Core.Path.{ap}
use mathlib.Core.Bool.{not}
use Rattle.writing.specs.Written.{ett_written}
use Rattle.writing.proofs.TestLaws.{refuses, goes_on, told_length}
use Rattle.writing.proofs.EttLaws.{ett_length}
use Rattle.writing.proofs.etts.check.Goals as goal

pub returns-then-not-numbers_have_room : goal.returns-then-not-numbers_have_room
unfolding ett_written
returns-then-not-numbers_have_room c = refuses 23 _ _ c.numbers_have_room.ensures (ap not c.if-not-numbers_have_room.true)

pub returns-then-not-numbers_fit : goal.returns-then-not-numbers_fit
unfolding ett_written
returns-then-not-numbers_fit c =
    goes_on 23 _ _ c.numbers_have_room.ensures (ap not c.if-not-numbers_have_room.false)
    (refuses 8 _ _ c.numbers_fit.ensures (ap not c.if-not-numbers_fit.true))

pub returns-then-not-text_sound : goal.returns-then-not-text_sound
unfolding ett_written
returns-then-not-text_sound c =
    goes_on 23 _ _ c.numbers_have_room.ensures (ap not c.if-not-numbers_have_room.false)
    (goes_on 8 _ _ c.numbers_fit.ensures (ap not c.if-not-numbers_fit.false)
    (refuses 9 _ _ c.text_sound.ensures (ap not c.if-not-text_sound.true)))

pub returns : goal.returns
unfolding ett_written
returns c =
    let g = c.args in
    goes_on 23 _ _ c.numbers_have_room.ensures (ap not c.if-not-numbers_have_room.false)
    (goes_on 8 _ _ c.numbers_fit.ensures (ap not c.if-not-numbers_fit.false)
    (goes_on 9 _ _ c.text_sound.ensures (ap not c.if-not-text_sound.false)
    (told_length _ _ _ _ (ett_length g.g g.etm g.t.now) c.length_with.ensures)))
