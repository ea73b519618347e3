-- A channel that a walk has passed ends where its row says.
use Prim.Native.Nat.{ℕ, ◌+◌, ◌≤◌, ◌<◌}
use mathlib.Core.Path.{◌≡◌, refl, ap, ◌∙◌}
use mathlib.Core.List.{List, [], ◌∷◌}
use native.Mathlib.Omega.{arith}
use Rattle.std.specs.Prelude.{Ok}
use Rattle.bytes_at.proofs.WalkLaws.{then_inv}
use Rattle.format.specs.Formats.{walks}
use Rattle.format.proofs.FieldLaws.{fields_end}
use Rattle.descriptor.specs.Descriptors.{no_tag}
use Rattle.descriptor.specs.Places.{list10, list_end}
use Rattle.descriptor.proofs.ListLaws.{ListPassed, list10_passed}
use Rattle.channel.specs.Walked.{channel}
use Rattle.channel.specs.Fields.{channel_end}

module _ (s : List ℕ) (end a b : ℕ) (w : walks channel s end a ≡ Ok b) where
  -- its head is passed, and then its descriptors
  passed : (d : ℕ) × ((d ≡ a + 30) × ListPassed no_tag 1024 s end d b)
  unfolding channel list10
  passed =
      let p = then_inv _ _ b w in
      let t = fields_end 112 (14 ∷ 10 ∷ 8 ∷ 32 ∷ 16 ∷ 16 ∷ 2 ∷ 1 ∷ 1 ∷ 6 ∷ 6 ∷ 16 ∷ []) 30 refl a end p.0 p.1.0 in
      (p.0, (t.0, list10_passed no_tag s end p.0 b p.1.1))

  pub channel_forward : (a < b) × (b ≤ end)
  channel_forward = let p = passed in (omega (arith, p.1.0, p.1.1.forward), p.1.1.inside)

  pub channel_ends : b ≡ channel_end s a
  unfolding channel_end
  channel_ends = let p = passed in p.1.1.ends ∙ ap (list_end 1024 s) p.1.0
