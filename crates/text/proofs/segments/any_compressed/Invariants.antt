-- What holds in the loop of `any_compressed`.
use Prim.Native.Nat.{◌-◌}
use Rattle.text.specs.Strings.{joined_units}
use Rattle.text.specs.Inner.{joined_plain}
use mathlib.Core.Path.{◌≡◌}
use Rattle.text.proofs.segments.any_compressed.Given as goal

abbrev pub invariant-loop : goal.invariant-loop
invariant-loop l =
    joined_plain l.s l.end (l.m - l.counter) l.at ≡ joined_units l.s l.end (l.m - l.counter) l.at
    → joined_plain l.s l.end l.m l.from ≡ joined_units l.s l.end l.m l.from
