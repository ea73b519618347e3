-- Bytes pasted into the area: what stands there, what stays, and that equal bytes change nothing.
use Prim.Native.Nat.{◌*◌, ◌+◌, ◌-◌, ◌<◌, ◌≤◌, ℕ}
use mathlib.Core.Path.{◌∙◌, ◌≡◌, ap, sym}
use mathlib.Core.List.{List, ◌++◌}
use mathlib.Core.Logic.{⊎_elim}
use native.Mathlib.Omega.{arith}
use lib.Dec.{ltb}
use lib.ListN.{get_or-append, drop, get_or, length, length-drop, take, take-append-drop}
use lib.Seq.{drop_at, ext_get_or, get_or-append-add, get_or-drop, get_or-take, length-paste, length_paste_head, length-take-le, paste, take-add, take-length, take-paste}
use borrow.Author.Tests.{ltb-false, ltb-true}
use Rattle.shelf.specs.Views.{bytes_at}
use Rattle.logic.proofs.LoopLaws.{both}

module _ (d : List ℕ) (at : ℕ) (s : List ℕ) (h : at + length s ≤ length d) where
  abbrev P : List ℕ
  P = paste d at s (length s)

  head_length : length (take at d ++ take (length s) s) ≡ at + length s
  head_length = length_paste_head d at s (length s) (omega arith) (omega arith)

  pub paste_before : (k : ℕ) → k < at → get_or P k 0 ≡ get_or d k 0
  paste_before k l =
      get_or-append (take at d ++ take (length s) s) (drop (at + length s) d) 0 k (omega (arith, head_length))
      ∙ get_or-append (take at d) (take (length s) s) 0 k (omega (arith, length-take-le at d (omega arith)))
      ∙ get_or-take at d k 0 l

  pub paste_after : (k : ℕ) → at + length s ≤ k → get_or P k 0 ≡ get_or d k 0
  paste_after k l =
      let e : length (take at d ++ take (length s) s) + (k - (at + length s)) ≡ k = omega (arith, head_length) in
      let f : at + length s + (k - (at + length s)) ≡ k = omega arith in
      ap (λ (x : ℕ). get_or P x 0) (sym e)
      ∙ get_or-append-add (take at d ++ take (length s) s) (drop (at + length s) d) (k - (at + length s)) 0
      ∙ get_or-drop (at + length s) d (k - (at + length s)) 0
      ∙ ap (λ (x : ℕ). get_or d x 0) f

  pub paste_size : length P ≡ length d
  paste_size = length-paste d at s (length s) h (omega arith)

  -- the part that was written is the section
  pub paste_there : take (length s) (drop at P) ≡ s
  paste_there =
      let q : take at P ++ take (length s) (drop at P) ≡ take at d ++ take (length s) s = sym (take-add at (length s) P) ∙ take-paste d at s (length s) (omega arith) (omega arith) in
      sym (drop_at (take at P) (take (length s) (drop at P)) at (length-take-le at P (omega (arith, paste_size))))
      ∙ ap (drop at) q
      ∙ drop_at (take at d) (take (length s) s) at (length-take-le at d (omega arith))
      ∙ take-length s

  -- equal bytes change nothing
  pub paste_equal : take (length s) (drop at d) ≡ s → P ≡ d
  paste_equal e =
      ap (λ (x : List ℕ). (take at d ++ x) ++ drop (at + length s) d) (take-length s ∙ sym e)
      ∙ ap (λ (x : List ℕ). x ++ drop (at + length s) d) (sym (take-add at (length s) d))
      ∙ take-append-drop (at + length s) d

-- the bytes of another place stay
pub other_place : (d s : List ℕ) (j i n : ℕ) → (i ≡ j → ⊥) → length s ≤ 4096 → n ≤ 4096 → j * 4096 + length s ≤ length d → i * 4096 + n ≤ length d
    → bytes_at (paste d (j * 4096) s (length s)) i n ≡ bytes_at d i n
other_place d s j i n ne hs hn hj hi =
    let P : List ℕ = paste d (j * 4096) s (length s) in
    let lp : length P ≡ length d = paste_size d (j * 4096) s hj in
    let l₁ : length (take n (drop (i * 4096) P)) ≡ n = length-take-le n (drop (i * 4096) P) (omega (arith, length-drop (i * 4096) P)) in
    let l₂ : length (take n (drop (i * 4096) d)) ≡ n = length-take-le n (drop (i * 4096) d) (omega (arith, length-drop (i * 4096) d)) in
    ext_get_or 0 (take n (drop (i * 4096) P)) (take n (drop (i * 4096) d)) (l₁ ∙ sym l₂)
    (λ k l. get_or-take n (drop (i * 4096) P) k 0 (omega (arith, l₁)) ∙ get_or-drop (i * 4096) P k 0 ∙ at k (omega (arith, l₁))
    ∙ sym (get_or-take n (drop (i * 4096) d) k 0 (omega (arith, l₁)) ∙ get_or-drop (i * 4096) d k 0))
  where
    at : (k : ℕ) → k < n → get_or (paste d (j * 4096) s (length s)) (i * 4096 + k) 0 ≡ get_or d (i * 4096 + k) 0
    at k l = ⊎_elim
        (λ b. paste_before d (j * 4096) s hj (i * 4096 + k) (omega (arith, ltb-true i j b)))
        (λ b. paste_after d (j * 4096) s hj (i * 4096 + k) (omega (arith, above (ltb-false i j b))))
        (both (ltb i j))
      where
        above : j ≤ i → j < i
        above b = ⊎_elim (λ e. ltb-true j i e) (λ e. absurd (ne (omega (arith, b, ltb-false j i e)))) (both (ltb j i))
