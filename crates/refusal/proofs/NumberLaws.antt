-- No two refusals share a number, so a promise that gives the number gives the refusal.
use Prim.Native.Nat.{ℕ}
use mathlib.Core.Path.{◌≡◌, refl, sym, ap, ◌∙◌}
use mathlib.Core.Bool.{Bool, true, false}
use lib.Dec.{eqb}
use Rattle.refusal.specs.declared.Refusal.{Refusal}
use Rattle.refusal.specs.declared.Refusal.TheVariants.{TooShort, OtherTable, Indicator, LengthRange, ByteCount, Checksum, ProtocolVersion, SectionNumber, Body, NotAReadPair, BrokenText, OutputShort, NoSuchEntry, ShelfBroken, OutOfRange, NotCurrent, NotWatched, AboveQuota, AlreadyWatched, NoRecordLeft, NoPlacesLeft, NotHeld, FieldTooLarge, SectionTooLong}
use Rattle.refusal.specs.Numbers.{number_of}

or_else : Bool → Refusal → Refusal → Refusal
or_else true a b = a
or_else false a b = b

-- the refusal that has this number
pub numbered : ℕ → Refusal
numbered n =
    or_else (eqb n 1) TooShort
    (or_else (eqb n 2) OtherTable
    (or_else (eqb n 3) Indicator
    (or_else (eqb n 4) LengthRange
    (or_else (eqb n 5) ByteCount
    (or_else (eqb n 6) Checksum
    (or_else (eqb n 7) ProtocolVersion
    (or_else (eqb n 8) SectionNumber
    (or_else (eqb n 9) Body
    (or_else (eqb n 10) NotAReadPair
    (or_else (eqb n 11) BrokenText
    (or_else (eqb n 12) OutputShort
    (or_else (eqb n 13) NoSuchEntry
    (or_else (eqb n 14) ShelfBroken
    (or_else (eqb n 15) OutOfRange
    (or_else (eqb n 16) NotCurrent
    (or_else (eqb n 17) NotWatched
    (or_else (eqb n 18) AboveQuota
    (or_else (eqb n 19) AlreadyWatched
    (or_else (eqb n 20) NoRecordLeft
    (or_else (eqb n 21) NoPlacesLeft
    (or_else (eqb n 22) NotHeld
    (or_else (eqb n 23) FieldTooLarge SectionTooLong))))))))))))))))))))))

pub numbered_back : (k : Refusal) → numbered (number_of k) ≡ k
unfolding numbered or_else
numbered_back TooShort = refl
numbered_back OtherTable = refl
numbered_back Indicator = refl
numbered_back LengthRange = refl
numbered_back ByteCount = refl
numbered_back Checksum = refl
numbered_back ProtocolVersion = refl
numbered_back SectionNumber = refl
numbered_back Body = refl
numbered_back NotAReadPair = refl
numbered_back BrokenText = refl
numbered_back OutputShort = refl
numbered_back NoSuchEntry = refl
numbered_back ShelfBroken = refl
numbered_back OutOfRange = refl
numbered_back NotCurrent = refl
numbered_back NotWatched = refl
numbered_back AboveQuota = refl
numbered_back AlreadyWatched = refl
numbered_back NoRecordLeft = refl
numbered_back NoPlacesLeft = refl
numbered_back NotHeld = refl
numbered_back FieldTooLarge = refl
numbered_back SectionTooLong = refl

pub number_once : (a b : Refusal) → number_of a ≡ number_of b → a ≡ b
number_once a b e = sym (numbered_back a) ∙ ap numbered e ∙ numbered_back b
