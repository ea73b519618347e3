-- An ETT that is written: its length, its tests, and what they have shown.
use Prim.Native.Nat.{ℕ, ◌+◌, ◌<◌}
use mathlib.Core.Path.{◌≡◌, sym, ap, ◌∙◌}
use mathlib.Core.List.{List}
use native.Mathlib.Omega.{arith}
use lib.ListN.{length}
use borrow.Author.Tests.{ltb-true, lt-leb}
use Rattle.logic.specs.Loops.{◌&◌}
use Rattle.logic.proofs.LoopLaws.{and_left, and_right}
use Rattle.refusal.specs.Outcomes.{refused, resulted, or_refuse}
use Rattle.refusal.specs.Outputs.{counted}
use Rattle.refusal.proofs.OutputLaws.{from_number}
use Rattle.kind.specs.declared.Kind.TheVariants.{Ett}
use Rattle.format.specs.Formats.{any_bytes}
use Rattle.strings.specs.Strings.{text}
use Rattle.ett.specs.Format.{ett_of}
use Rattle.ett.proofs.WritingLaws.{body_size}
use Rattle.section.specs.declared.write.Given.{Given}
use Rattle.section.specs.Writing.{header_given, length_fits}
use Rattle.section.proofs.EncodingLaws.{encoded_size}
use Rattle.writing.specs.Written.{ett_bytes, ett_written}
use Rattle.writing.specs.Inner.{Fits}
use Rattle.refusal.proofs.OutcomeLaws.{went_on}
use Rattle.writing.proofs.TestLaws.{has_room}

module _ (g : Given) (etm : ℕ) (t : List ℕ) where
  pub body_length : length ((ett_of any_bytes).enc (record { etm = etm; text = t })) ≡ length t + 4
  body_length = omega (arith, body_size etm t)

  pub ett_length : length (ett_bytes g etm t) ≡ length t + 17
  unfolding ett_bytes
  ett_length = omega (arith, encoded_size Ett (header_given g) ((ett_of any_bytes).enc (record { etm = etm; text = t })), body_length)

  -- a length was answered: the tests have passed, and the section is the result
  pub ett_passed : (room n : ℕ) → resulted n ≡ counted (ett_written g etm t room)
      → (Fits g (length t + 4) room × (etm < 4294967296)) × (ett_written g etm t room ≡ resulted (ett_bytes g etm t))
  unfolding ett_written ett_bytes
  ett_passed room n e =
      let x = from_number _ n e in
      let a = went_on 23 _ _ x.0 x.1.0 in
      let b = went_on 8 _ _ x.0 a.1 in
      let c = went_on 9 _ _ x.0 b.1 in
      let body = (ett_of any_bytes).enc (record { etm = etm; text = t }) in
      let f = has_room Ett g body (length t + 4) room (omega arith) body_length x.0 (and_left _ _ a.0) c.1 in
      ((f.0, ltb-true _ _ (and_right _ _ a.0)), x.1.0 ∙ ap resulted (sym f.1))

-- 24: so long a text has no room in any section
pub text_long : (room n : ℕ) → 4096 < n → refused 24 ≡ or_refuse 24 (length_fits Ett room (n + 17)) (resulted (n + 17))
unfolding or_refuse length_fits ◌&◌
text_long room n h = rw (lt-leb (n + 17) 4096 (omega arith))
