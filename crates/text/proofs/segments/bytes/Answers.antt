-- `bytes` meets its contract.
use Rattle.text.proofs.UnitLaws.{wrote_units, all_of}
use Rattle.text.specs.Inner.{plain_pairs}
use lib.ListN.{length}
use native.Mathlib.Omega.{arith}
use mathlib.Core.Path.{refl}
use borrow.Author.Rules.{rules}
use Rattle.text.proofs.segments.bytes.Goals as goal

pub store-requires : goal.store-requires
unfolding plain_pairs
store-requires c = search rules

pub returns : goal.returns
unfolding plain_pairs
returns c = let a = c.args in
    let u = all_of a.out.now a.s.now a.n (length a.s.now) _ (omega arith) c.store.ensures in
    wrote_units _ a.out.now a.n _ a.s.now _ refl refl (omega (arith, c.requires)) u
