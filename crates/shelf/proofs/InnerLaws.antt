-- Questions to a watch by its record: the lowest number that it lacks, and that the bytes handed back are those of the view.
use Rattle.std.specs.Prelude.{None, Some}
use Prim.Native.Nat.{◌+◌, ◌<◌, ℕ}
use mathlib.Core.Path.{◌∙◌, ◌≡◌, ap, sym}
use mathlib.Core.Bool.{Bool, false, not, true}
use mathlib.Core.List.{List, []}
use native.Mathlib.Omega.{arith}
use Rattle.logic.proofs.LoopLaws.{first_at, first_none}
use Rattle.logic.specs.Choices.{pick}
use Rattle.logic.specs.Loops.{first}
use Rattle.shelf_state.specs.Records.{place_at, watch_at}
use Rattle.shelf_state.specs.Searches.{is_held, place_of}
use Rattle.shelf_state.specs.declared.records.Shelf.{Shelf}
use Rattle.shelf.specs.Inner.{kept_bytes, lowest_missing}
use Rattle.shelf.specs.Views.{Kept, at_first, bytes_at, kept_at}

module _ (s : Shelf) (w n : ℕ) (e : n ≡ (watch_at s w).edition.last + 1) where
  pub missing_at : (m : ℕ) → m < n → ((j : ℕ) → j < m → is_held s w j ≡ true) → is_held s w m ≡ false → m ≡ lowest_missing s w
  unfolding lowest_missing
  missing_at m l f g =
      sym (first_at (λ k. not (is_held s w k)) n m l (λ j a. ap not (f j a)) (ap not g))
      ∙ ap (λ (k : ℕ). first k (λ i. not (is_held s w i))) e

  pub missing_none : ((j : ℕ) → j < n → is_held s w j ≡ true) → n ≡ lowest_missing s w
  unfolding lowest_missing
  missing_none f =
      sym (first_none (λ k. not (is_held s w k)) n (λ j a. ap not (f j a)))
      ∙ ap (λ (k : ℕ). first k (λ i. not (is_held s w i))) e

-- what a view keeps under a number is handed back
pub kept_view : (s : Shelf) (area : List ℕ) (w m : ℕ) (k : Kept) → kept_at s area w m ≡ Some k → kept_bytes s area w m ≡ k.bytes
unfolding kept_at kept_bytes at_first
kept_view s area w m k = go (is_held s w m)
  where
    go : (b : Bool) → pick b (Some (record { bytes = bytes_at area (place_of s w m) (place_at s (place_of s w m)).length })) None ≡ Some k
        → pick b (bytes_at area (place_of s w m) (place_at s (place_of s w m)).length) [] ≡ k.bytes
    go true e = let f : record { bytes = bytes_at area (place_of s w m) (place_at s (place_of s w m)).length } ≡ k = cc in ap (λ (x : Kept). x.bytes) f
    go false e = let z : ◌≡◌ {A = ℕ} 0 1 = cc in absurd (omega arith)
