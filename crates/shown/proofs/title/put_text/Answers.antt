-- `put_text` meets its contract: there is room for every text of 255 bytes.
use Prim.Native.Nat.{◌+◌}
use Rattle.text.specs.Strings.{string_units}
use Rattle.shown.proofs.AnswerLaws.{told_is}
use Rattle.shown.proofs.title.put_text.Goals as goal

pub returns : goal.returns
returns c =
    let a = c.args in
    let x = string_units a.s.now (a.p.start + a.p.length) a.p.start 0 in
    let t = told_is x _ c.string_read-r.result a.units.now _ c.told-units c.string_read-r.ensures in
    rw t.1 at c.put_answer.ensures
