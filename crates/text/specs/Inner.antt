-- What the private functions promise.
use Rattle.std.specs.Prelude.{◌≡◌, ℕ, zero, suc, ◌+◌, ◌≤◌, Bool, true, false, List, [], length, take, drop, Result, Ok}
use Rattle.std.proofs.lemmas.List.Edits.{sets}
use Rattle.bytes_at.specs.Fields.{byte_at}
use Rattle.format.specs.Formats.{walks}
use Rattle.strings.specs.Strings.{segment}
use Rattle.refusal.specs.declared.Refusal.{Refusal}
use Rattle.refusal.specs.Outcomes.{Outcome, refused, resulted, outcome, after}
use Rattle.text.specs.declared.answer.Amount.{Amount}
use Rattle.text.specs.declared.segments.Way.{Way}
use Rattle.text.specs.declared.segments.Way.TheVariants.{Plain, Utf16, Titles, Descriptions, Unread}
use Rattle.text.specs.Answers.{amount_of}
use Rattle.text.specs.Segments.{way_of, pairs, units_by}
use Rattle.bytes_at.specs.Walks.{standing}
use Rattle.text.specs.Values.{joined}
use Rattle.refusal.specs.Outputs.{counted}

-- ---- plain bytes
-- plain bytes as units: two a unit, or one
unfoldable pub plain_pairs : Bool → List ℕ → List ℕ
plain_pairs true s = pairs s
plain_pairs false s = s

-- a segment, to those who read plain bytes only: a compressed one is of no read pair
unfoldable pub plain_by : Way → List ℕ → Outcome (List ℕ)
plain_by Plain s = units_by Plain s
plain_by Utf16 s = units_by Utf16 s
plain_by Titles s = refused 10
plain_by Descriptions s = refused 10
plain_by Unread s = units_by Unread s

unfoldable pub plain_units : List ℕ → ℕ → Outcome (List ℕ)
plain_units s at = plain_by (way_of (byte_at s at) (byte_at s (at + 1))) (take (byte_at s (at + 2)) (drop (at + 3) s))

-- so many segments from `at` on, each of the units that are told of its place, joined
unfoldable pub joined_of : (ℕ → Outcome (List ℕ)) → List ℕ → ℕ → ℕ → ℕ → Outcome (List ℕ)
joined_of told s end zero at = resulted []
joined_of told s end (suc m) at = after (standing (walks segment s end at)) (λ b. joined (told at) (joined_of told s end m b))

-- so many segments, to those who read plain bytes only
abbrev pub joined_plain : List ℕ → ℕ → ℕ → ℕ → Outcome (List ℕ)
joined_plain s end m at = joined_of (plain_units s) s end m at

-- ---- what is stored
-- the output l with the units of x stored from place n on, those that have room; a refusal stores none
unfoldable pub stored_units : List ℕ → ℕ → Outcome (List ℕ) → List ℕ
stored_units l n (refused k) = l
stored_units l n (resulted us) = sets l n us

-- a segment of the units x was read: the answer is r, and the output is then e. A segment has at most 255 bytes, and a unit takes
-- a bit or more
pub record Wrote (x : Outcome (List ℕ)) (l : List ℕ) (n : ℕ) (r : Result ℕ Refusal) (e : List ℕ) : Type 0 where
  pub answers : outcome r ≡ counted x
  pub stores : e ≡ stored_units l n x
  pub few : (us : List ℕ) → x ≡ resulted us → length us ≤ 2040

-- the same of joined segments, p of which were replaced; where one is refused, those before it may be stored
pub record WroteAll (x : Outcome (List ℕ)) (p : ℕ) (l : List ℕ) (r : Result Amount Refusal) (e : List ℕ) : Type 0 where
  pub answers : outcome r ≡ amount_of p x
  pub stores : (us : List ℕ) → x ≡ resulted us → e ≡ sets l 0 us

-- a segment of the units x was read once, into an array with room for it: the answer is r, and the array is then e. What a refused
-- one leaves there is of no use
pub record Once (x : Outcome (List ℕ)) (l : List ℕ) (n : ℕ) (r : Result ℕ Refusal) (e : List ℕ) : Type 0 where
  pub answers : outcome r ≡ counted x
  pub stores : (us : List ℕ) → x ≡ resulted us → e ≡ sets l n us
  pub long : length e ≡ length l

-- the same of joined segments
pub record OnceAll (x : Outcome (List ℕ)) (p : ℕ) (l : List ℕ) (r : Result Amount Refusal) (e : List ℕ) : Type 0 where
  pub wrote : WroteAll x p l r e
  pub long : length e ≡ length l
  pub few : (a : Amount) → r ≡ Ok a → a.units ≤ 2040
