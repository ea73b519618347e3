-- `utf16` meets its contract.
use Rattle.text.proofs.UnitLaws.{pairs_length, utf16_even, utf16_odd, wrote_units, wrote_refused, all_of}
use Rattle.text.specs.Inner.{plain_pairs}
use Rattle.text.specs.Segments.{pairs}
use Rattle.refusal.specs.declared.Refusal.TheVariants.{BrokenText}
use lib.ListN.{length}
use Prim.Native.Nat.{◌/◌}
use native.Mathlib.Omega.{arith}
use mathlib.Core.Path.{refl, sym}
use Rattle.text.proofs.segments.utf16.Goals as goal

pub returns-then-s-ne0 : goal.returns-then-s-ne0
returns-then-s-ne0 c = let a = c.args in wrote_refused _ a.out.now a.n BrokenText _ (utf16_odd a.s.now c.if-s-ne0.true) refl

pub store-requires : goal.store-requires
unfolding plain_pairs
store-requires c = (c.requires, omega (arith, pairs_length c.args.s.now))

pub returns : goal.returns
unfolding plain_pairs
returns c = let a = c.args in
    let e = pairs_length a.s.now in
    let even = utf16_even a.s.now c.if-s-ne0.false in
    let u = all_of a.out.now (pairs a.s.now) a.n (length a.s.now / 2) _ (omega arith) c.store.ensures in
    wrote_units _ a.out.now a.n _ (pairs a.s.now) _ even (sym e) (omega (arith, c.requires)) u
