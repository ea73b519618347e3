-- The body that is written: how long it is, and that it is put as ETM_id and the text behind it.
use Prim.Native.Nat.{ℕ, ◌+◌, ◌*◌}
use mathlib.Core.Path.{◌≡◌, ap, ◌∙◌}
use mathlib.Core.List.{List, ◌++◌}
use native.Mathlib.Omega.{arith}
use lib.ListN.{length, length-append}
use lib.Seq.{sets, take-length}
use Rattle.part.specs.Parts.{bytes_in}
use Rattle.format.specs.Formats.{any_bytes}
use Rattle.format.specs.Laws.OfValues.{bytes_length}
use Rattle.format.specs.Values.{number, bytes_of}
use Rattle.bytes_put.proofs.PutLaws.{put_behind}
use Rattle.ett.specs.Format.{etm_head, ett_of}

module _ (etm : ℕ) (text : List ℕ) where
  pub body_size : length ((ett_of any_bytes).enc (record { etm = etm; text = text })) ≡ 4 + length text
  body_size =
      let n = number etm_head (etm, record {}) in
      omega (arith, length-append (bytes_of 4 n) text, bytes_length 4 n)

  pub body_put : (o : List ℕ) {p q : List ℕ} (at : ℕ) → p ≡ sets o at (bytes_of 4 etm)
      → q ≡ sets p (at + 4) (bytes_in text (record { start = 0; length = length text }))
      → q ≡ sets o at ((ett_of any_bytes).enc (record { etm = etm; text = text }))
  body_put o {p} at e f =
      let n : etm ≡ etm * 1 + 0 = omega arith in
      put_behind o at 4 (bytes_of 4 etm) text (bytes_length 4 etm) e (f ∙ ap (sets p (at + 4)) (take-length text))
      ∙ ap (λ m. sets o at (bytes_of 4 m ++ text)) n
