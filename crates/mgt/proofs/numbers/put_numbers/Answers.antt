-- `put_numbers` meets its contract: what is read is the numbers that the format names.
use mathlib.Core.Path.{◌∙◌}
use mathlib.Core.List.{[], ◌∷◌}
use lib.Seq.{sets}
use Rattle.mgt.specs.Fields.{numbers_row}
use Rattle.mgt.proofs.HeadLaws.{numbers_are}
use Rattle.mgt.proofs.numbers.put_numbers.Goals as goal

pub returns : goal.returns
unfolding numbers_row
returns c =
    let a = c.args in
    c.put_all.ensures ∙ rw (c.narrow.ensures, c.narrow-2.ensures, c.narrow-3.ensures, c.narrow-4.ensures)
    (numbers_are (λ t p v n. sets a.out.now a.p (t ∷ p ∷ v ∷ n ∷ [])) _ _ c.word.ensures.1.1 c.word-2.ensures.1.1
    c.byte.ensures.1.1 c.long.ensures.1.1)
