-- SCOPE 6, number 9: how a walk goes through a container. A walk is given the container's end and the place where it
-- starts; it answers the place where it then stands, or the offset of the field to blame.
use Rattle.std.specs.Prelude.{ℕ, Result, zero, suc, ◌+◌, ◌-◌, ◌*◌, ◌/◌, List, [], ◌∷◌, eqb, leb, Ok, Err}
use Rattle.refusal.specs.Outcomes.{Outcome, refused, resulted}
use Rattle.logic.specs.Choices.{pick}

-- where a walk stands, or the offset of the field that is to blame
abbrev pub Walk : Type 0
Walk = Result ℕ ℕ

-- past n bytes of a container that ends at `end`: the one meaning of "runs past its container". The field to blame stands
-- `back` bytes before: 0 for a field of its own, and for a part whose length was read, the bytes of the length field
unfoldable pub skip_to : ℕ → ℕ → ℕ → ℕ → Walk
skip_to back at n end = pick (leb (at + n) end) (Ok (at + n)) (Err (at - back))

-- past fields of these numbers of bits, the first of which begins at bit p: the first that does not fit is to blame, by the
-- byte of its first bit
unfoldable pub bits_to : List ℕ → ℕ → ℕ → Walk
bits_to [] p end = Ok (p / 8)
bits_to (n ∷ ns) p end = pick (leb (p + n) (8 * end)) (bits_to ns (p + n) end) (Err (p / 8))

-- the same from a byte on
unfoldable pub fields_to : List ℕ → ℕ → ℕ → Walk
fields_to ns at end = bits_to ns (8 * at) end

-- go on from where a walk stands
unfoldable pub then : Walk → (ℕ → Walk) → Walk
then (Ok a) k = k a
then (Err x) k = Err x

-- n times the walk p
unfoldable pub many : (ℕ → Walk) → ℕ → ℕ → Walk
many p zero at = Ok at
many p (suc n) at = then (p at) (many p n)

-- no byte is left over: to blame is the first that is
unfoldable pub ends : ℕ → ℕ → Walk
ends end at = pick (eqb at end) (Ok at) (Err at)

-- where a walk stands, or 9 of one that does not
unfoldable pub standing : Walk → Outcome ℕ
standing (Ok a) = resulted a
standing (Err x) = refused 9
