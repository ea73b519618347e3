-- `unit_at` meets its contract.
use Rattle.text.proofs.UnitLaws.{pair_there, pair_at, byte_there, byte_at_lem}
use native.Mathlib.Omega.{arith}
use mathlib.Core.Path.{◌∙◌}
use Rattle.text.proofs.segments.unit_at.Goals as goal

pub overflow_mul-i : goal.overflow_mul-i
overflow_mul-i c = let a = c.args in
    omega (arith, pair_there a.wide a.s.now a.i c.requires.1 c.if-wide.true)

pub bounds-s-i : goal.bounds-s-i
bounds-s-i c = let a = c.args in
    omega (arith, pair_there a.wide a.s.now a.i c.requires.1 c.if-wide.true)

pub overflow_mul-i-then-wide : goal.overflow_mul-i-then-wide
overflow_mul-i-then-wide c = let a = c.args in
    omega (arith, pair_there a.wide a.s.now a.i c.requires.1 c.if-wide.true)

pub overflow_add-i : goal.overflow_add-i
overflow_add-i c = let a = c.args in
    omega (arith, pair_there a.wide a.s.now a.i c.requires.1 c.if-wide.true)

pub bounds-s-i-then-wide : goal.bounds-s-i-then-wide
bounds-s-i-then-wide c = let a = c.args in
    omega (arith, pair_there a.wide a.s.now a.i c.requires.1 c.if-wide.true)

pub bounds-s-i-else-wide : goal.bounds-s-i-else-wide
bounds-s-i-else-wide c = let a = c.args in
    omega (arith, byte_there a.wide a.s.now a.i c.requires.1 c.if-wide.false)

pub returns-then-wide : goal.returns-then-wide
returns-then-wide c = let a = c.args in
    rw (c.from.ensures, c.from-then-wide.ensures) (pair_at a.wide a.s.now a.i c.requires.1 c.if-wide.true)

pub returns-else-wide : goal.returns-else-wide
returns-else-wide c = let a = c.args in
    c.from-else-wide.ensures ∙ byte_at_lem a.wide a.s.now a.i c.requires.1 c.if-wide.false
