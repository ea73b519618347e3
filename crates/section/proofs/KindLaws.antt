-- What holds of every kind: its line of the table of kinds, and that its body is walked as its record is.
use Prim.Native.Nat.{ℕ, ◌≤◌, ◌<◌}
use mathlib.Core.Path.{◌≡◌, refl}
use mathlib.Core.List.{List}
use native.Mathlib.Omega.{arith}
use Rattle.bytes_at.specs.Fields.{byte_at}
use Rattle.kind.specs.declared.Kind.{Kind}
use Rattle.kind.specs.declared.Kind.TheVariants.{Mgt, Tvct, Rrt, Eit, Ett}
use Rattle.kind.specs.Kinds.{limits_of, table_id_of}
use Rattle.format.specs.Formats.{walks_all}
use Rattle.mgt.proofs.ThereLaws as mgts
use Rattle.tvct.proofs.ThereLaws as tvcts
use Rattle.rrt.proofs.ThereLaws as rrts
use Rattle.eit.proofs.ThereLaws as eits
use Rattle.ett.proofs.FieldLaws as etts
use Rattle.section.specs.Bodies.{body_format}
use Rattle.section.specs.Walked.{body_of}

pub start_small : (k : Kind) → (limits_of k).body < 4096
start_small Mgt = omega arith
start_small Tvct = omega arith
start_small Rrt = omega arith
start_small Eit = omega arith
start_small Ett = omega arith

-- a section of the smallest length has room before it
pub start_fits : (k : Kind) → (limits_of k).body ≤ (limits_of k).smallest
start_fits Mgt = omega arith
start_fits Tvct = omega arith
start_fits Rrt = omega arith
start_fits Eit = omega arith
start_fits Ett = omega arith

-- what the encoding of a section asks of the table
pub record Known (k : Kind) : Type 0 where
  pub smallest : 10 ≤ (limits_of k).smallest
  pub largest : (limits_of k).largest < 4096
  pub last : (limits_of k).last < 256
  pub body : (limits_of k).body ≡ 9
  pub zero_byte : (s : List ℕ) → byte_at s (limits_of k).zero_byte ≡ byte_at s 8
  pub id : table_id_of k < 256

pub known : (k : Kind) → Known k
known Mgt = record { smallest = omega arith; largest = omega arith; last = omega arith; body = refl; zero_byte = λ s. refl; id = omega arith }
known Tvct = record { smallest = omega arith; largest = omega arith; last = omega arith; body = refl; zero_byte = λ s. refl; id = omega arith }
known Rrt = record { smallest = omega arith; largest = omega arith; last = omega arith; body = refl; zero_byte = λ s. refl; id = omega arith }
known Eit = record { smallest = omega arith; largest = omega arith; last = omega arith; body = refl; zero_byte = λ s. refl; id = omega arith }
known Ett = record { smallest = omega arith; largest = omega arith; last = omega arith; body = refl; zero_byte = λ s. refl; id = omega arith }

pub same_walk : (k : Kind) (s : List ℕ) (end at : ℕ) → walks_all (body_of k) s end at ≡ walks_all (body_format k) s end at
unfolding body_of
same_walk Mgt = mgts.same_walk
same_walk Tvct = tvcts.same_walk
same_walk Rrt = rrts.same_walk
same_walk Eit = eits.same_walk
same_walk Ett = etts.same_walk
