-- Fields that are k bytes together: what is read where the bytes of values lie, and back.
use Rattle.std.specs.Prelude.{ℕ, ◌*◌, ◌^◌, ◌<◌, ◌≡◌, List, length}
use Rattle.std.proofs.Common.{ap, ◌∙◌, arith, take_all}
use Rattle.bytes_at.specs.Bits.{bits_at}
use Rattle.format.specs.Lawful.{Lies}
use Rattle.format.specs.Repeats.{Bytes}
use Rattle.format.specs.Values.{Field, width, Vals, Fit, number, bytes_of}
use Rattle.format.specs.Heads.{vals_at}
use Rattle.format.specs.Laws.OfValues.{number_lt, number_once, vals_fit, vals_number, lies_number, bytes_part}

module _ (fs : List Field) (k : ℕ) (whole : width fs ≡ 8 * k) where
  pub below : (v : Vals fs) → Fit fs v → number fs v < 2 ^ (8 * k)
  below v o = rw whole at (number_lt fs v o)

  -- what is read where the bytes of values lie is the values
  pub vals_there : (s : List ℕ) (at : ℕ) (v : Vals fs) → Fit fs v → Lies (bytes_of k (number fs v)) s at → vals_at fs s at 0 ≡ v
  vals_there s at v o l =
      number_once fs _ v (vals_fit fs s at 0) o
      (vals_number fs s at ∙ ap (bits_at s (8 * at)) whole ∙ lies_number k (number fs v) s at (below v o) l)

  -- the bytes of what is read are those that are there
  pub vals_back : (x : List ℕ) → length x ≡ k → Bytes x → bytes_of k (number fs (vals_at fs x 0 0)) ≡ x
  vals_back x h z =
      ap (bytes_of k) (vals_number fs x 0 ∙ ap (bits_at x 0) whole) ∙ bytes_part k x 0 z (omega arith) ∙ take_all k x (omega arith)
