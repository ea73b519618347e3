-- What holds in the loops of `count_values`.
use Prim.Native.Nat.{◌+◌, ◌-◌, ◌*◌, ◌≤◌}
use mathlib.Core.Path.{◌≡◌}
use Rattle.entry.specs.declared.Entry.TheVariants.{Dimension}
use Rattle.rows.specs.Values.{value_count}
use Rattle.rows.specs.Inner.{Entries}
use Rattle.rows.proofs.values.count_values.Given as goal

abbrev pub invariant-loop : goal.invariant-loop
invariant-loop l = Entries Dimension l.s (l.n - l.counter) l.d × ((l.count + value_count l.s (l.n - l.counter) l.d ≡ value_count l.s l.n l.from) × (l.count + 15 * (l.n - l.counter) ≤ 15 * l.n))
