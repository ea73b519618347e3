-- `put_number` meets its contract: the bytes are the last of the number's eight.
use Prim.Native.Nat.{ℕ, ◌-◌, ◌≤◌}
use mathlib.Core.Path.{ap, ◌∙◌}
use mathlib.Core.List.{List}
use native.Mathlib.Omega.{arith}
use lib.ListN.{take, drop}
use lib.Seq.{take_all}
use Rattle.format.specs.Values.{bytes_of}
use Rattle.format.specs.Laws.OfValues.{bytes_length}
use Rattle.bytes_put.proofs.PutLaws.{last_bytes, put_over}
use Rattle.bytes_put.proofs.put_number.Goals as goal

pub returns : goal.returns
returns g c =
    let a = c.args in
    let n = g.row.N in
    let some : n ≤ 8 = c.requires.0 in
    put_over a.out.now a.at n (bytes_of n a.x) (bytes_length n a.x) c.requires.1.0
    (c.copy_from_slice.ensures.after
    ∙ ap (λ (l : List ℕ). take (8 - (8 - n)) (drop (8 - n) l)) c.to_be_bytes.ensures
    ∙ ap (take (8 - (8 - n))) (last_bytes n a.x some c.requires.1.1)
    ∙ take_all (8 - (8 - n)) (bytes_of n a.x) (omega (arith, bytes_length n a.x)))
