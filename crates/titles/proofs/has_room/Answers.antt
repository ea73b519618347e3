-- `has_room` meets its contract.
use mathlib.Core.Path.{◌≡◌}
use Prim.Native.Nat.{ℕ}
use native.Mathlib.Omega.{arith}
use Rattle.titles.proofs.TitlesLaws.{units_few}
use Rattle.titles.proofs.has_room.Goals as goal

pub returns-then-s-room : goal.returns-then-s-room
returns-then-s-room c =
    record { enough = λ q. omega (arith, units_few _ _ _ c.requires, c.if-s-room.true); short = λ q. let z : ◌≡◌ {A = ℕ} 0 1 = cc in absurd (omega arith) }
