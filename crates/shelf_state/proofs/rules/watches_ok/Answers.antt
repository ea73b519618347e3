-- `watches_ok` meets its contract: the watches so far are sound.
use mathlib.Core.Path.{◌∙◌, sym}
use borrow.Author.Count.{below_more}
use Rattle.logic.proofs.LoopLaws.{all_fails, all_met, and_i, and_no_left, and_no_right}
use Rattle.shelf_state.specs.Tests.{watch_ok}
use Rattle.shelf_state.proofs.rules.watches_ok.Goals as goal

pub returns-then-not-watch_sound : goal.returns-then-not-watch_sound
unfolding watch_ok
returns-then-not-watch_sound c = sym (all_fails _ _ _ c.loop-i-test.true (and_no_left _ _ (sym c.watch_sound.ensures ∙ c.if-not-watch_sound.true)))

pub returns-then-not-key_is_new : goal.returns-then-not-key_is_new
unfolding watch_ok
returns-then-not-key_is_new c = sym (all_fails _ _ _ c.loop-i-test.true (and_no_right _ _ (sym c.key_is_new.ensures ∙ c.if-not-key_is_new.true)))

pub loop-i-preserved : goal.loop-i-preserved
unfolding watch_ok
loop-i-preserved c = below_more _ _ c.loop-i.invariant (and_i _ _ (sym c.watch_sound.ensures ∙ c.if-not-watch_sound.false) (sym c.key_is_new.ensures ∙ c.if-not-key_is_new.false))

pub returns : goal.returns
returns c = all_met _ _ _ c.loop-i-test.false c.loop-i.invariant
