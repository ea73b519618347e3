-- `skip_fields` meets its contract: field by field, the first that does not fit, or past them all.
use mathlib.Core.Path.{◌≡◌}
use Prim.Native.Nat.{ℕ, ◌+◌, ◌*◌, ◌/◌}
use Rattle.bytes_at.proofs.WalkLaws.{bits_past, bits_on, bits_done}
use Rattle.bytes_at.specs.Walks.{fields_to}
use native.Mathlib.Omega.{arith}
use Rattle.bytes_at.proofs.skip_fields.Goals as goal

-- where the walk stands past the four fields, in bytes and in bits
whole : (at a b c d w x y z : ℕ) → w ≡ a → x ≡ b → y ≡ c → z ≡ d → at + (w + x + y + z) / 8 ≡ (8 * at + a + b + c + d) / 8
whole at a b c d w x y z p q r s = omega arith

pub returns-then-end-at : goal.returns-then-end-at
unfolding fields_to
returns-then-end-at c = bits_past _ _ _ _ _ (omega arith) (omega arith)

pub returns-then-there-p : goal.returns-then-there-p
unfolding fields_to
returns-then-there-p c = bits_past _ _ _ _ _ (omega arith) (omega arith)

pub returns-then-there-q : goal.returns-then-there-q
unfolding fields_to
returns-then-there-q c = bits_on _ _ _ _ (omega arith) (bits_past _ _ _ _ _ (omega arith) (omega arith))

pub returns-then-there-r : goal.returns-then-there-r
unfolding fields_to
returns-then-there-r c = bits_on _ _ _ _ (omega arith) (bits_on _ _ _ _ (omega arith) (bits_past _ _ _ _ _ (omega arith) (omega arith)))

pub returns-then-there-t : goal.returns-then-there-t
unfolding fields_to
returns-then-there-t c = bits_on _ _ _ _ (omega arith) (bits_on _ _ _ _ (omega arith) (bits_on _ _ _ _ (omega arith) (bits_past _ _ _ _ _ (omega arith) (omega arith))))

pub returns : goal.returns
unfolding fields_to
returns c = bits_on _ _ _ _ (omega arith)
    (bits_on _ _ _ _ (omega arith)
    (bits_on _ _ _ _ (omega arith)
    (bits_on _ _ _ _ (omega arith)
    (bits_done _ _ _
    (whole _ _ _ _ _ _ _ _ _ c.wide-p.ensures.0 c.wide.ensures.0 c.wide-2.ensures.0 c.wide-3.ensures.0)))))
