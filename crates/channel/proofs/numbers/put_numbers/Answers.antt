-- `put_numbers` meets its contract.
use mathlib.Core.Path.{◌∙◌}
use Rattle.channel.proofs.RowLaws.{numbers_stored}
use Rattle.channel.proofs.numbers.put_numbers.Goals as goal

pub returns : goal.returns
returns c =
    let a = c.args in
    c.put_service.ensures ∙ numbers_stored a.c a.out.now _ _ a.p c.put_name.ensures c.put_tuning.ensures
