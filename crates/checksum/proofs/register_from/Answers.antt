-- `register_from` meets its contract.
-- Assumes nothing.
use mathlib.Core.Path.{◌≡◌, sym, ap, ◌∙◌, subst}
use Prim.Native.Nat.{ℕ, ◌+◌, ◌-◌, ◌*◌, ◌/◌, ◌%◌, ◌^◌, ◌<◌, ◌≤◌}
use native.Mathlib.Omega.{arith}
use Rattle.std.proofs.lemmas.Bool.Decides.{nat_tests}
use lib.ListN.{length, take, drop, drop_of_length-le, take-append-drop}
use Rattle.checksum.specs.Register.{register_from}
use Rattle.checksum.specs.Ahead.{StandsFor}
use Rattle.checksum.proofs.Steps.{zeros}
use Rattle.checksum.proofs.Bytes.{register_from_append}
use Rattle.checksum.proofs.Ahead.{ahead}
use Rattle.checksum.proofs.Blocks.{block_in}
use Rattle.checksum.proofs.register_from.Goals as goal

pub returns-then-is_empty : goal.returns-then-is_empty
unfolding register_from
returns-then-is_empty c =
    let a = c.args in
    let none : length a.s.now ≤ 0 = grind (arith, nat_tests) in
    ap (register_from a.r) (sym (drop_of_length-le a.s.now none))

pub loop-k-init : goal.loop-k-init
unfolding register_from
loop-k-init c =
    let r = c.args.r in
    let fits : r < 2 ^ 32 = c.ranges.r.fits in
    let e : r * 2 ^ 8 ≡ r * 2 ^ 8 % 2 ^ 64 = omega (arith, fits) in
    subst (StandsFor (zeros 8 r)) e (ahead 8 r fits (omega arith))

pub loop-k-preserved : goal.loop-k-preserved
loop-k-preserved c =
    let l = c.loop-k in
    let a = c.args in
    let b = c.sixteen_more-a in
    let e : 16 * l.k + 16 ≡ 16 * (l.k + 1) = omega arith in
    subst (λ (u : ℕ). StandsFor (zeros 8 u) b.result)
    (block_in 16 (16 * l.k) a.r a.s.now ∙ ap (λ (n : ℕ). register_from a.r (take n a.s.now)) e) (b.ensures _ l.invariant)

pub returns : goal.returns
returns c =
    let l = c.loop-k in
    let a = c.args in
    let s = a.s.now in
    let n = 16 * l.k in
    let e : l.k ≡ (length s - 1) / 16 = omega arith in
    c.up_to_16.ensures _ l.invariant ∙ ap (λ (k : ℕ). register_from (register_from a.r (take n s)) (drop (16 * k) s)) (sym e)
    ∙ sym (register_from_append a.r (take n s) (drop n s)) ∙ ap (register_from a.r) (take-append-drop n s)
