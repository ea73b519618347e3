-- A defined table that a walk has passed ends where its row says; its row is stored in two parts, and has six numbers.
use Prim.Native.Nat.{ℕ, ◌+◌, ◌≤◌, ◌<◌}
use mathlib.Core.Path.{◌≡◌, refl, sym, ap, ap₂, ◌∙◌}
use mathlib.Core.List.{List, [], ◌∷◌}
use native.Mathlib.Omega.{arith}
use lib.ListN.{length}
use lib.Seq.{sets}
use Rattle.std.specs.Prelude.{Ok}
use Rattle.bytes_at.proofs.WalkLaws.{then_inv}
use Rattle.format.specs.Formats.{walks}
use Rattle.format.proofs.FieldLaws.{fields_end}
use Rattle.part.specs.declared.Part.{Part}
use Rattle.descriptor.specs.Descriptors.{no_tag}
use Rattle.descriptor.specs.Places.{list12, list_end}
use Rattle.descriptor.proofs.ListLaws.{ListPassed, list12_passed}
use Rattle.row.specs.Rows.{part_row}
use Rattle.row.proofs.RowLaws.{sets_append}
use Rattle.mgt.specs.Walked.{defined}
use Rattle.mgt.specs.Fields.{descriptors_at, defined_end, numbers_row, defined_row}

module _ (s : List ℕ) (end a b : ℕ) (w : walks defined s end a ≡ Ok b) where
  -- its head is passed, and then its descriptors
  passed : (d : ℕ) × ((d ≡ a + 9) × ListPassed no_tag 4096 s end d b)
  unfolding defined list12
  passed =
      let p = then_inv _ _ b w in
      let t = fields_end 16 (16 ∷ 8 ∷ 32 ∷ []) 9 refl a end p.0 p.1.0 in
      (p.0, (t.0, list12_passed no_tag s end p.0 b p.1.1))

  pub defined_forward : (a < b) × (b ≤ end)
  defined_forward = let p = passed in (omega (arith, p.1.0, p.1.1.forward), p.1.1.inside)

  pub defined_ends : b ≡ defined_end s a
  unfolding defined_end
  defined_ends = let p = passed in p.1.1.ends ∙ ap (list_end 4096 s) p.1.0

module _ (s : List ℕ) (a : ℕ) where
  pub row_six : length (defined_row s a) ≡ 6
  unfolding defined_row numbers_row part_row
  row_six = refl

  pub row_stored : (l m : List ℕ) (p : ℕ) (d : Part) → m ≡ sets l p (numbers_row s a) → d ≡ descriptors_at s a
      → sets m (p + 4) (part_row d) ≡ sets l p (defined_row s a)
  unfolding defined_row numbers_row
  row_stored l m p d e f =
      ap₂ (λ (x : List ℕ) (y : Part). sets x (p + 4) (part_row y)) e f ∙ sym (sets_append (numbers_row s a) (part_row (descriptors_at s a)) l p)
