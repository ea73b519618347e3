-- `check` meets its contract: the tests in their order.
use mathlib.Core.Path.{ap}
use mathlib.Core.Bool.{not}
use native.Mathlib.Omega.{arith}
use Rattle.eit.proofs.GivenLaws.{size_most}
use Rattle.writing.specs.Written.{eit_written}
use Rattle.writing.proofs.TestLaws.{refuses, goes_on, told_length}
use Rattle.writing.proofs.EitLaws.{few_rows, rows_passed, eit_length}
use Rattle.writing.proofs.eits.check.Goals as goal

pub returns-then-not-numbers_have_room : goal.returns-then-not-numbers_have_room
unfolding eit_written
returns-then-not-numbers_have_room c = refuses 23 _ _ c.numbers_have_room.ensures (ap not c.if-not-numbers_have_room.true)

pub returns-then-not-numbers_fit : goal.returns-then-not-numbers_fit
unfolding eit_written
returns-then-not-numbers_fit c =
    goes_on 23 _ _ c.numbers_have_room.ensures (ap not c.if-not-numbers_have_room.false)
    (refuses 8 _ _ c.numbers_fit.ensures (ap not c.if-not-numbers_fit.true))

pub events_sound-requires : goal.events_sound-requires
events_sound-requires c =
    let g = c.args in
    few_rows g.g g.count g.rows.now g.bytes.now c.numbers_have_room.ensures (ap not c.if-not-numbers_have_room.false)

pub returns-then-not-events_sound : goal.returns-then-not-events_sound
unfolding eit_written
returns-then-not-events_sound c =
    goes_on 23 _ _ c.numbers_have_room.ensures (ap not c.if-not-numbers_have_room.false)
    (goes_on 8 _ _ c.numbers_fit.ensures (ap not c.if-not-numbers_fit.false)
    (refuses 9 _ _ c.events_sound.ensures (ap not c.if-not-events_sound.true)))

pub events_size-requires : goal.events_size-requires
events_size-requires c =
    let g = c.args in
    let r =
    rows_passed g.g g.count g.rows.now g.bytes.now
    c.numbers_have_room.ensures (ap not c.if-not-numbers_have_room.false) c.events_sound.ensures (ap not c.if-not-events_sound.false) in
    (omega (arith, r.0.inside), (r.1, r.0.fits))

pub overflow_add-events_size : goal.overflow_add-events_size
overflow_add-events_size c =
    let g = c.args in
    let r =
    rows_passed g.g g.count g.rows.now g.bytes.now
    c.numbers_have_room.ensures (ap not c.if-not-numbers_have_room.false) c.events_sound.ensures (ap not c.if-not-events_sound.false) in
    omega (arith, c.events_size.ensures, size_most g.rows.now g.count 0 r.0.fits, r.1)

pub returns : goal.returns
unfolding eit_written
returns c =
    let g = c.args in
    let r =
    rows_passed g.g g.count g.rows.now g.bytes.now
    c.numbers_have_room.ensures (ap not c.if-not-numbers_have_room.false) c.events_sound.ensures (ap not c.if-not-events_sound.false) in
    let l = eit_length g.g g.count g.rows.now g.bytes.now r.0.sound in
    goes_on 23 _ _ c.numbers_have_room.ensures (ap not c.if-not-numbers_have_room.false)
    (goes_on 8 _ _ c.numbers_fit.ensures (ap not c.if-not-numbers_fit.false)
    (goes_on 9 _ _ c.events_sound.ensures (ap not c.if-not-events_sound.false)
    (told_length _ _ _ _ (omega (arith, l, c.events_size.ensures)) c.length_of.ensures)))
