-- `tables::word_ahead` meets its contract: each byte has the bytes after it for bytes 0.
-- Assumes nothing.
use Prim.Native.Nat.{ℕ, ◌+◌, ◌*◌, ◌/◌, ◌%◌, ◌^◌}
use mathlib.Core.Path.{◌≡◌, subst}
use native.Mathlib.Omega.{arith}
use Rattle.checksum.specs.Ahead.{StandsFor}
use Rattle.checksum.proofs.Steps.{zeros}
use Rattle.checksum.proofs.Blocks.{word}
use Rattle.checksum.proofs.tables.word_ahead.Goals as goal

far : (n m x : ℕ) {b : ℕ} → n ≡ m → StandsFor (zeros n x) b → StandsFor (zeros m x) b
far n m x {b} e h = subst (λ (k : ℕ). StandsFor (zeros k x) b) e h

pub returns : goal.returns
returns g c =
    let e = 8 * g.row.D in
    let y = c.args.y in
    word e y _ _ _ _ (far (8 * g.row.A) (24 + e) (y / 2 ^ 24 % 256) (omega arith) c.byte_ahead.ensures)
    (far (8 * g.row.B) (16 + e) (y / 2 ^ 16 % 256) (omega arith) c.byte_ahead-2.ensures)
    (far (8 * g.row.C) (8 + e) (y / 2 ^ 8 % 256) (omega arith) c.byte_ahead-3.ensures)
    c.byte_ahead-4.ensures
