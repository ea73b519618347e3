-- The rows of a dimension and of a value.
use Prim.Native.Nat.{ℕ, ◌+◌}
use mathlib.Core.Path.{◌≡◌, refl, ap}
use mathlib.Core.List.{List, [], ◌∷◌, ◌++◌}
use native.Mathlib.Numerals.{towards_suc}
use lib.ListN.{length}
use lib.Seq.{sets}
use Rattle.part.specs.declared.Part.{Part}
use Rattle.row.specs.Rows.{part_row}
use Rattle.rrt.specs.declared.dimension.Dimension.{Dimension}
use Rattle.rrt.specs.Fields.{dimension_at, dimension_row, texts_row, value_row}

-- ---- a dimension's has four numbers, and a value's six
pub row_four : (s : List ℕ) (d : ℕ) → length (dimension_row s d) ≡ 4
unfolding dimension_row part_row
row_four s d = refl

pub row_six : (s : List ℕ) (i j a : ℕ) → length (value_row s i j a) ≡ 6
unfolding value_row texts_row part_row
row_six s i j a = refl

-- ---- a dimension's, of what is read
pub dimension_row_lem : (s : List ℕ) (d p : ℕ) (l : List ℕ) (x : Dimension) → x ≡ dimension_at s d
    → sets l p (x.name.start ∷ x.name.length ∷ x.graduated_scale ∷ x.values ∷ []) ≡ sets l p (dimension_row s d)
unfolding dimension_row part_row
dimension_row_lem s d p l x e =
    ap (λ (y : Dimension). sets l p (y.name.start ∷ y.name.length ∷ y.graduated_scale ∷ y.values ∷ [])) e

-- ---- a value's is stored one part after the other
pub parts_stored : (p : ℕ) (l m : List ℕ) (t u : Part) → m ≡ sets l p (part_row t) → sets m (p + 2) (part_row u) ≡ sets l p (part_row t ++ part_row u)
unfolding part_row
parts_stored p l m t u e = rw e (simp towards_suc)

pub value_stored : (s : List ℕ) (i j a p : ℕ) (l : List ℕ) {m n : List ℕ} → m ≡ sets l p (i ∷ j ∷ [])
    → n ≡ sets m (p + 2) (texts_row s a) → n ≡ sets l p (value_row s i j a)
unfolding value_row
value_stored s i j a p l e f = rw (f, e) (simp towards_suc)
