-- `row_sound` meets its contract: the title, then the descriptors.
use mathlib.Core.Path.{◌∙◌}
use Rattle.eit.proofs.GivenLaws.{title_bad, title_good}
use Rattle.eit.proofs.write.row_sound.Goals as goal

pub returns-then-title_sound : goal.returns-then-title_sound
returns-then-title_sound c =
    title_good _ _ _ c.title_given.ensures.0 c.title_sound.ensures c.if-title_sound.true c.list_given.ensures.0 c.list_sound.ensures

pub returns-else-title_sound : goal.returns-else-title_sound
returns-else-title_sound c =
    c.if-title_sound.false ∙ title_bad _ _ _ c.title_given.ensures.0 c.title_sound.ensures c.if-title_sound.false
