-- What the front of some bytes tells: too little, no record, or a record; and that bytes behind it change nothing of what it tells.
use Prim.Native.Nat.{ℕ, ◌+◌, ◌%◌, ◌≤◌, ◌<◌}
use mathlib.Core.Path.{◌≡◌, refl, sym, ap, ◌∙◌}
use mathlib.Core.Bool.{Bool, true, false}
use mathlib.Core.List.{List, ◌++◌}
use native.Mathlib.Omega.{arith}
use lib.Dec.{eqb, ltb}
use lib.ListN.{length, take, drop, length-drop, get_or-append}
use lib.Seq.{take-append-le, drop-append-le}
use borrow.Author.Tests.{ltb-true, ltb-false, eqb-true, eqb-false}
use Rattle.logic.proofs.ChoiceLaws.{lt_yes, lt_no, eq_yes, eq_no}
use Rattle.bytes_at.specs.Fields.{word_at}
use Rattle.record.specs.Records.{mark_in, length_in, section_in, head_size, to_come, whole}
use Rattle.record.proofs.RecordLaws.{cut_off, all_there}
use Rattle.lines.specs.Records.{record_lines}
use Rattle.listing.specs.Listing.{after_record}

pub data Front (s : List ℕ) : Type 0 where
  short : length s < head_size + to_come s → whole s ≡ false → Front s
  wrong : head_size ≤ length s → (mark_in s ≡ 0xA55A → ⊥) → Front s
  found : head_size + length_in s ≤ length s → mark_in s ≡ 0xA55A → Front s

module _ (s : List ℕ) where
  few_whole : length s < head_size → false ≡ whole s
  unfolding whole
  few_whole h = lt_yes (length s) head_size false _ h refl

  module _ (long : head_size ≤ length s) where
    pub wrong_whole : (mark_in s ≡ 0xA55A → ⊥) → false ≡ whole s
    unfolding whole
    wrong_whole w = lt_no (length s) head_size false _ long (eq_no (mark_in s) 0xA55A _ false w refl)

    pub wrong_to_come : (mark_in s ≡ 0xA55A → ⊥) → 0 ≡ to_come s
    unfolding to_come
    wrong_to_come w = lt_no (length s) head_size 0 _ long (eq_no (mark_in s) 0xA55A (length_in s) 0 w refl)

    pub right_to_come : mark_in s ≡ 0xA55A → length_in s ≡ to_come s
    unfolding to_come
    right_to_come r = lt_no (length s) head_size 0 _ long (eq_yes (mark_in s) 0xA55A (length_in s) 0 r refl)

    by_length : mark_in s ≡ 0xA55A → (t : Bool) → ltb (length s) (head_size + length_in s) ≡ t → Front s
    by_length m true h =
        let g = ltb-true (length s) (head_size + length_in s) h in
        short (omega (arith, g, right_to_come m)) (sym (cut_off s long m g))
    by_length m false h = found (ltb-false (length s) (head_size + length_in s) h) m

    by_mark : (t : Bool) → eqb (mark_in s) 0xA55A ≡ t → Front s
    by_mark true h = by_length (eqb-true (mark_in s) 0xA55A h) _ refl
    by_mark false h = wrong long (eqb-false (mark_in s) 0xA55A h)

  by_size : (t : Bool) → ltb (length s) head_size ≡ t → Front s
  by_size true h = let g = ltb-true (length s) head_size h in short (omega (arith, g)) (sym (few_whole g))
  by_size false h = by_mark (ltb-false (length s) head_size h) _ refl

  pub front : Front s
  front = by_size _ refl

  pub found_whole : head_size + length_in s ≤ length s → mark_in s ≡ 0xA55A → true ≡ whole s
  found_whole h m = all_there s (omega (arith, h)) m h

  pub found_to_come : head_size + length_in s ≤ length s → mark_in s ≡ 0xA55A → length_in s ≡ to_come s
  found_to_come h m = right_to_come (omega (arith, h)) m

-- ---- with more bytes behind
module _ (s t : List ℕ) (long : head_size ≤ length s) where
  word_kept : (i : ℕ) → i + 1 < head_size → word_at (s ++ t) i ≡ word_at s i
  word_kept i h = rw (get_or-append s t 0 i (omega (arith, h, long)), get_or-append s t 0 (i + 1) (omega (arith, h, long)))

  pub mark_kept : mark_in (s ++ t) ≡ mark_in s
  mark_kept = word_kept 0 (omega arith)

  pub length_kept : length_in (s ++ t) ≡ length_in s
  length_kept = ap (λ (k : ℕ). k % 4096) (word_kept 5 (omega arith))

  module _ (all : head_size + length_in s ≤ length s) where
    pub behind_kept : after_record (s ++ t) ≡ after_record s ++ t
    behind_kept = ap (λ (k : ℕ). drop (head_size + k) (s ++ t)) length_kept ∙ drop-append-le (head_size + length_in s) s t all

    section_kept : section_in (s ++ t) ≡ section_in s
    section_kept =
        let k = 3 + length_in s in
        ap (λ (x : ℕ). take (3 + x) (drop 4 (s ++ t))) length_kept
        ∙ ap (take k) (drop-append-le 4 s t (omega (arith, long)))
        ∙ take-append-le k (drop 4 s) t (omega (arith, length-drop 4 s, all))

    pub lines_kept : (n : ℕ) → record_lines n (s ++ t) ≡ record_lines n s
    unfolding record_lines
    lines_kept n = rw (section_kept, word_kept 2 (omega arith))
