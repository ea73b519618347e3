-- A unit takes a bit or more, so a string has at most eight units for each byte of its field; no text is refused by a number past 13.
use mathlib.Core.Path.{◌≡◌, refl, ap, subst, sym}
use mathlib.Core.List.{List, [], ◌∷◌}
use Prim.Native.Nat.{ℕ, zero, suc, ◌+◌, ◌-◌, ◌*◌, ◌≤◌}
use native.Mathlib.Omega.{arith}
use lib.ListN.{length, take, drop, length-take, length-append}
use Rattle.std.specs.Prelude.{Ok, Err}
use Rattle.bytes_at.specs.Fields.{byte_at}
use Rattle.bytes_at.specs.Walks.{fields_to, then, many, standing, Walk}
use Rattle.bytes_at.proofs.WalkLaws.{to_is, then_inv, skipped}
use Rattle.refusal.specs.Outcomes.{Outcome, refused, resulted, after}
use Rattle.refusal.proofs.OutcomeLaws.{same_result, not_both}
use Rattle.refusal.proofs.TestLaws.{passed_lt, either_way}
use Rattle.annex_c.specs.Codes.{Reading}
use Rattle.format.specs.Formats.{walks, last_byte, times}
use Rattle.format.proofs.FieldLaws.{fields_end}
use Rattle.format.proofs.FormatLaws.{head_forward}
use Rattle.segment.specs.Bits.{all_bits}
use Rattle.segment.specs.Text.{Text}
use Rattle.segment.specs.Inner.{judged_text}
use Rattle.segment.specs.Segment.{segment_text, title_text, description_text}
use Rattle.segment.proofs.BitLaws.{length_bits}
use Rattle.segment.proofs.TextLaws.{Fits, fits_count}
use Rattle.segment.proofs.SegmentLaws.{coded_fits}
use Rattle.strings.specs.Strings.{segment, string}
use Rattle.text.specs.declared.segments.Way.{Way}
use Rattle.text.specs.declared.segments.Way.TheVariants.{Plain, Utf16, Titles, Descriptions, Unread}
use Rattle.text.specs.Segments.{utf16_units, units_or_refusal, units_by, pairs}
use Rattle.text.specs.Strings.{segment_units, string_count, string_at, joined_units, string_units}
use Rattle.text.specs.Values.{joined}
use Rattle.text.proofs.UnitLaws.{pairs_length, judged_refusal, text_refusal, text_units_lem}

-- at most m units, or a refusal of a text
abbrev pub Few : ℕ → Outcome (List ℕ) → Type 0
Few m (refused n) = n ≤ 13
Few m (resulted us) = length us ≤ m

few_more : (m n : ℕ) (x : Outcome (List ℕ)) → m ≤ n → Few m x → Few n x
few_more m n (refused k) h f = f
few_more m n (resulted us) h f = omega (arith, h, f)

-- ---- one segment
text_few : (x : Text) (m : ℕ) → Fits m x → Few m (units_or_refusal x)
text_few x m f = by (judged_text 0 x) refl
  where
    by : (j : Outcome ℕ) → judged_text 0 x ≡ j → Few m (units_or_refusal x)
    by (resulted n) e = subst (Few m) (sym (text_units_lem 0 n x e)) (fits_count m x f)
    by (refused k) e = let q = judged_refusal m 0 k x f e in subst (Few m) (sym (text_refusal 0 k x e)) (omega (arith, q))

compressed_few : (read : ℕ → List ℕ → Reading) (s : List ℕ) → Few (8 * length s) (units_or_refusal (segment_text read s))
unfolding segment_text
compressed_few read s = rw (← length_bits s) (text_few (segment_text read s) (length (all_bits s)) (coded_fits read (length (all_bits s)) 0 (all_bits s)))

utf16_few : (s : List ℕ) → Few (8 * length s) (utf16_units s)
unfolding utf16_units
utf16_few s = either_way (Few (8 * length s)) 11 _ (resulted (pairs s)) (omega arith) (omega (arith, pairs_length s))

way_few : (w : Way) (s : List ℕ) → Few (8 * length s) (units_by w s)
unfolding units_by title_text description_text
way_few Plain s = omega arith
way_few Utf16 s = utf16_few s
way_few Titles s = compressed_few _ s
way_few Descriptions s = compressed_few _ s
way_few Unread s = omega arith

-- its head of three bytes is counted with it
pub segment_few : (s : List ℕ) (at : ℕ) → Few (8 * (byte_at s (at + 2) + 3)) (segment_units s at)
unfolding segment_units
segment_few s at =
    let bytes = take (byte_at s (at + 2)) (drop (at + 3) s) in
    few_more (8 * length bytes) (8 * (byte_at s (at + 2) + 3)) (segment_units s at)
    (omega (arith, length-take (byte_at s (at + 2)) (drop (at + 3) s))) (way_few _ bytes)

-- it has room in an array of 2,040 units
pub segment_room : (s : List ℕ) (at : ℕ) → byte_at s (at + 2) ≤ 255 → Few 2040 (segment_units s at)
unfolding segment_units
segment_room s at h =
    let bytes = take (byte_at s (at + 2)) (drop (at + 3) s) in
    few_more (8 * length bytes) 2040 (segment_units s at) (omega (arith, length-take (byte_at s (at + 2)) (drop (at + 3) s))) (way_few _ bytes)

-- ---- the segments of a string
joined_few : (m n : ℕ) (x y : Outcome (List ℕ)) → Few m x → Few n y → Few (m + n) (joined x y)
unfolding joined after
joined_few m n (refused k) y f g = f
joined_few m n (resulted us) (refused k) f g = g
joined_few m n (resulted us) (resulted vs) f g = omega (arith, length-append us vs, f, g)

pub segment_end : (s : List ℕ) (end at b : ℕ) → walks segment s end at ≡ Ok b → (b ≡ at + 3 + byte_at s (at + 2)) × (b ≤ end)
unfolding segment
segment_end s end at b w =
    let h = then_inv _ _ b w in
    let f = fields_end 8 (8 ∷ 8 ∷ []) 3 refl at end h.0 h.1.0 in
    let e : h.0 - 1 ≡ at + 2 = omega (arith, f) in
    let k = skipped 1 h.0 _ end b h.1.1 in
    (omega (arith, f, k, ap (byte_at s) e), omega (arith, k))

-- one segment more, where the walk stands behind it
next_few : (s : List ℕ) (end at m : ℕ) (w : Walk) → walks segment s end at ≡ w → at ≤ end
    → ((b : ℕ) → b ≤ end → Few (8 * (end - b)) (joined_units s end m b))
    → Few (8 * (end - at)) (after (standing w) (λ b. joined (segment_units s at) (joined_units s end m b)))
unfolding after standing
next_few s end at m (Err x) e h rest = omega arith
next_few s end at m (Ok b) e h rest =
    let q = segment_end s end at b e in
    few_more (8 * (byte_at s (at + 2) + 3) + 8 * (end - b)) (8 * (end - at)) (joined (segment_units s at) (joined_units s end m b)) (omega (arith, q, h))
    (joined_few _ _ (segment_units s at) (joined_units s end m b) (segment_few s at) (rest b q.1))

all_few : (s : List ℕ) (end m at : ℕ) → at ≤ end → Few (8 * (end - at)) (joined_units s end m at)
unfolding joined_units
all_few s end zero at h = omega arith
all_few s end (suc m) at h = next_few s end at m (walks segment s end at) refl h (λ b l. all_few s end m b l)

-- ---- a string
strings_forward : (s : List ℕ) (end k at b : ℕ) → many (walks string s end) k at ≡ Ok b → at ≤ b
unfolding many string
strings_forward s end zero at b w = omega (arith, to_is at b w)
strings_forward s end (suc k) at b w =
    let p = then_inv _ _ b w in
    let f = head_forward 24 (8 ∷ []) 4 refl last_byte (times segment) s end at p.0 p.1.0 in
    omega (arith, f, strings_forward s end k p.0 b p.1.1)

module _ (s : List ℕ) (end at k b : ℕ) where
  head_after : (c : ℕ) (w : Walk) → fields_to (24 ∷ 8 ∷ []) c end ≡ w → standing w ≡ resulted b → c ≤ b
  unfolding standing
  head_after c (Err x) e q = not_both 9 b q
  head_after c (Ok d) e q = omega (arith, fields_end 24 (8 ∷ []) 4 refl c end d e, same_result d b q)

  walk_after : (w : Walk) → many (walks string s end) k (at + 1) ≡ w → standing (then w (λ c. fields_to (24 ∷ 8 ∷ []) c end)) ≡ resulted b → at ≤ b
  unfolding standing then
  walk_after (Err x) e q = not_both 9 b q
  walk_after (Ok c) e q =
      omega (arith, head_after c (fields_to (24 ∷ 8 ∷ []) c end) refl q, strings_forward s end k (at + 1) c e)

  -- a string that is found lies behind the field's beginning
  pub string_after : string_at s end at k ≡ resulted b → at ≤ b
  unfolding string_at
  string_after q = walk_after (many (walks string s end) k (at + 1)) refl (passed_lt 13 k (string_count s end at) _ b q).1

module _ (s : List ℕ) (end at k : ℕ) where
  -- behind the head of the string, if there is one
  head_few : (c : ℕ) (w : Walk) → at ≤ c → fields_to (24 ∷ 8 ∷ []) c end ≡ w
      → Few (8 * (end - at)) (after (standing w) (λ b. joined_units s end (byte_at s (b - 1)) b))
  unfolding after standing
  head_few c (Err x) h e = omega arith
  head_few c (Ok b) h e =
      let f = fields_end 24 (8 ∷ []) 4 refl c end b e in
      few_more (8 * (end - b)) (8 * (end - at)) (joined_units s end (byte_at s (b - 1)) b) (omega (arith, f, h)) (all_few s end (byte_at s (b - 1)) b f.1)

  -- past the strings before it
  walk_few : (w : Walk) → many (walks string s end) k (at + 1) ≡ w
      → Few (8 * (end - at)) (after (standing (then w (λ b. fields_to (24 ∷ 8 ∷ []) b end))) (λ b. joined_units s end (byte_at s (b - 1)) b))
  unfolding after standing then
  walk_few (Err x) e = omega arith
  walk_few (Ok c) e = head_few c (fields_to (24 ∷ 8 ∷ []) c end) (omega (arith, strings_forward s end k (at + 1) c e)) refl

  pub string_few : Few (8 * (end - at)) (string_units s end at k)
  unfolding string_units string_at after
  string_few =
      either_way (λ x. Few (8 * (end - at)) (after x (λ b. joined_units s end (byte_at s (b - 1)) b))) 13 _ _
      (omega arith) (walk_few (many (walks string s end) k (at + 1)) refl)

  pub few_units : (us : List ℕ) → string_units s end at k ≡ resulted us → length us ≤ 8 * (end - at)
  few_units us e = subst (Few (8 * (end - at))) e string_few
