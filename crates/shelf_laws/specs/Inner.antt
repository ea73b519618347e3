-- What is asked of a watch by its record (Inner.antt of `shelf`) is told by its view.
use Rattle.std.specs.Prelude.{ℕ, ◌+◌, ◌≡◌, not, List, Some}
use Rattle.logic.specs.Loops.{first}
use Rattle.shelf_state.specs.declared.records.Shelf.{Shelf}
use Rattle.shelf.specs.Inner.{kept_bytes, lowest_missing}
use Rattle.shelf.specs.Views.{Kept, is_some, view_at}

-- the bytes kept under a number, and the lowest number that is missing
abbrev pub KeptByView : Type 0
KeptByView = (s : Shelf) (area : List ℕ) (w m : ℕ) (k : Kept) → (view_at s area w).kept m ≡ Some k → kept_bytes s area w m ≡ k.bytes

abbrev pub MissingByView : Type 0
MissingByView = (s : Shelf) (area : List ℕ) (w : ℕ)
    → lowest_missing s w ≡ first ((view_at s area w).edition.last + 1) (λ m. not (is_some ((view_at s area w).kept m)))
