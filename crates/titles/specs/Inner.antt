-- A title that was read into an array.
use Rattle.std.specs.Prelude.{◌≡◌, ℕ, ◌≤◌, ◌<◌, List, ◌∷◌, [], take, Ok, Err}
use Rattle.refusal.specs.Numbers.{number_of}
use Rattle.titles.specs.declared.title.Found.{Found}
use Rattle.titles.specs.declared.title.Found.TheVariants as found
use Rattle.titles.specs.Titles.{TitleTold, no_title, no_strings, refused_title, text, blank_row}

-- how many units it has
abbrev pub unit_count : Found → ℕ
unit_count found.NoTitle = 0
unit_count found.NoStrings = 0
unit_count (found.Text (Err k)) = 0
unit_count (found.Text (Ok a)) = a.units

-- how many of its segments were replaced
abbrev pub replaced_in : Found → ℕ
replaced_in found.NoTitle = 0
replaced_in found.NoStrings = 0
replaced_in (found.Text (Err k)) = 0
replaced_in (found.Text (Ok a)) = a.replaced

-- its four numbers, where its units begin at n
unfoldable pub row_of : ℕ → Found → List ℕ
row_of n found.NoTitle = blank_row 1
row_of n found.NoStrings = blank_row 2
row_of n (found.Text (Err k)) = blank_row (number_of k)
row_of n (found.Text (Ok a)) = 3 ∷ n ∷ a.units ∷ a.replaced ∷ []

-- what is told of it, by the units at the array's start
unfoldable pub told : Found → List ℕ → TitleTold
told found.NoTitle o = no_title
told found.NoStrings o = no_strings
told (found.Text (Err k)) o = refused_title (number_of k)
told (found.Text (Ok a)) o = text (take a.units o) a.replaced

-- the title t was read: the answer is r, and the array is then o
pub record Read (t : TitleTold) (r : Found) (o : List ℕ) : Type 0 where
  pub tells : told r o ≡ t
  pub few : unit_count r ≤ 2040
  pub rare : replaced_in r < 256
