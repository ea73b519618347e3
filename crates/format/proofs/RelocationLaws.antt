-- A walk through a container depends on the container's bytes alone: it stands in one section exactly when it stands in another
-- that has the same bytes there.
use Prim.Native.Nat.{ℕ, ◌+◌, ◌-◌, ◌≤◌}
use mathlib.Core.Path.{◌≡◌, sym, ap, ◌∙◌}
use mathlib.Core.Logic.{◌↔◌}
use mathlib.Core.List.{List}
use native.Mathlib.Omega.{arith}
use lib.ListN.{length}
use lib.Seq.{take_all}
use Rattle.std.specs.Prelude.{Ok}
use Rattle.bytes_at.specs.Inner.{Stands}
use Rattle.format.specs.Repeats.{Bytes}
use Rattle.format.specs.Laws.OfBytes.{part_bytes, part_length}
use Rattle.format.proofs.KeptLaws.{laws}
use Rattle.format.specs.Formats.{Format, Filling}
use Rattle.format.proofs.FormatLaws.{between, accepted, accepted_all}

-- a container that lies within a section of bytes
pub record Within (s : List ℕ) (end at : ℕ) : Type 0 where
  pub ordered : at ≤ end
  pub inside : end ≤ length s
  pub bytes : Bytes s

module _ {C : Type 0} (f : Filling C) (c : C) where
  -- the same bytes at another place, or in another section
  pub moved : (s t : List ℕ) (e a d b : ℕ) → Within s e a → Within t d b → between s a e ≡ between t b d
      → Stands (f.walk c s e a) → Stands (f.walk c t d b)
  moved s t e a d b i j p w =
      let n = (f.law laws c).whole s e a w.0 w.1 in
      let x = (accepted_all s e a i.ordered i.inside i.bytes f c).0 (w.1 ∙ ap Ok n) in
      (d, (accepted_all t d b j.ordered j.inside j.bytes f c).1 (x.0, (x.1.0, sym p ∙ x.1.1)))

  pub part_within : (s : List ℕ) (e a : ℕ) → Within s e a → Within (between s a e) (e - a) 0
  part_within s e a i =
      let o = i.ordered in
      let m = i.inside in
      record { ordered = omega arith; inside = omega (arith, part_length s (e - a) a (omega arith)); bytes = part_bytes s (e - a) a i.bytes }

  part_part : (s : List ℕ) (e a : ℕ) → Within s e a → between (between s a e) 0 (e - a) ≡ between s a e
  part_part s e a i =
      let o = i.ordered in
      let m = i.inside in
      take_all (e - a - 0) (between s a e) (omega (arith, part_length s (e - a) a (omega arith)))

  -- the container alone
  pub relocated : (s : List ℕ) (e a : ℕ) → Within s e a → Stands (f.walk c s e a) ↔ Stands (f.walk c (between s a e) (e - a) 0)
  relocated s e a i = (
    moved s (between s a e) e a (e - a) 0 i (part_within s e a i) (sym (part_part s e a i)),
    moved (between s a e) s (e - a) 0 e a (part_within s e a i) i (part_part s e a i),
  )

-- a format that tells where it ends comes as far, wherever its bytes stand
module _ {C : Type 0} (f : Format C) (c : C) where
  pub moved_to : (s t : List ℕ) (e a d b n : ℕ) → Within s e a → Within t d b → b + n ≤ d → between s a (a + n) ≡ between t b (b + n)
      → f.walk c s e a ≡ Ok (a + n) → f.walk c t d b ≡ Ok (b + n)
  moved_to s t e a d b n i j h p w =
      let x = (accepted s e a i.ordered i.inside i.bytes f c (a + n)).0 w in
      (accepted t d b j.ordered j.inside j.bytes f c (b + n)).1 (x.0, (x.1.0, ((omega arith, h), sym p ∙ x.1.1.1)))

-- bytes that a walk is given on their own: they are walked exactly when they are those of a well-formed value
pub own_bytes : {C : Type 0} (f : Filling C) (c : C) (t : List ℕ) → Bytes t
    → Stands (f.walk c t (length t) 0) ↔ ((x : f.Val) × (f.Formed c x × (t ≡ f.enc x)))
own_bytes f c t z = (
  (λ w.
      let n = (f.law laws c).whole t (length t) 0 w.0 w.1 in
      let u = (accepted_all t (length t) 0 (omega arith) (omega arith) z f c).0 (w.1 ∙ ap Ok n) in
      (u.0, (u.1.0, sym (take_all (length t - 0) t (omega arith)) ∙ u.1.1))),
  (λ u. (length t, (accepted_all t (length t) 0 (omega arith) (omega arith) z f c).1 (u.0, (u.1.0, take_all (length t - 0) t (omega arith) ∙ u.1.1)))),
)
