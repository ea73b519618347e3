-- `put_numbers` meets its contract: what is read is the numbers that the format names.
use mathlib.Core.Path.{◌∙◌}
use Rattle.rrt.proofs.FieldLaws.{dimension_is}
use Rattle.rrt.proofs.RowLaws.{dimension_row_lem}
use Rattle.rrt.proofs.numbers.put_numbers.Goals as goal

pub returns : goal.returns
returns c =
    let e = dimension_is _ _ _ _ _ c.text_at-name.ensures.0 c.text_end.ensures.0 c.byte-x.ensures.0 c.byte-x.ensures.1.1 in
    c.put_all.ensures ∙ rw (c.narrow.ensures, c.narrow-2.ensures, c.narrow-3.ensures, c.narrow-4.ensures) (dimension_row_lem _ _ _ _ _ e)
