-- The row of an event.
use Prim.Native.Nat.{ℕ, ◌+◌}
use mathlib.Core.Path.{◌≡◌, refl}
use mathlib.Core.List.{List}
use native.Mathlib.Numerals.{towards_suc}
use lib.ListN.{length}
use lib.Seq.{sets}
use Rattle.part.specs.declared.Part.{Part}
use Rattle.row.specs.Rows.{part_row}
use Rattle.eit.specs.Fields.{title_part, descriptors_at, times_row, event_row}

pub row_eight : (s : List ℕ) (a : ℕ) → length (event_row s a) ≡ 8
unfolding event_row times_row part_row
row_eight s a = refl

-- it is stored in three parts: the times, the title's part, the descriptors' part
pub event_row_lem : (s : List ℕ) (a p : ℕ) (l : List ℕ) {k m n : List ℕ} {t d : Part} → k ≡ sets l p (times_row s a) → t ≡ title_part s a
    → m ≡ sets k (p + 4) (part_row t) → d ≡ descriptors_at s a → n ≡ sets m (p + 6) (part_row d) → n ≡ sets l p (event_row s a)
unfolding event_row times_row part_row
event_row_lem s a p l e t f d g = rw (g, f, e, t, d) (simp towards_suc)
