-- The two examples of SCOPE 8.2: the bytes of the two EITs, and what is printed of them and of empty input.
use Rattle.std.specs.Prelude.{ℕ, ◌≡◌, List, [], ◌∷◌, ◌++◌}
use Rattle.shown.specs.Ascii.{ascii}
use Rattle.listing.specs.Listing.{ended, listing}

abbrev pub mark : List ℕ
mark = 0xA5 ∷ 0x5A ∷ []

-- source 7: event 5, start 1000, length 1800, title "Tea"
abbrev pub tea : List ℕ
tea =
    mark
    ++ (0x1D ∷ 0x00 ∷ 0xCB ∷ 0xF0 ∷ 0x22 ∷ 0x00 ∷ 0x07 ∷ 0xC7 ∷ 0x00 ∷ 0x00 ∷ 0x00 ∷ 0x01 ∷ 0xC0 ∷ 0x05 ∷ 0x00 ∷ 0x00 ∷ 0x03 ∷ 0xE8
    ∷ 0xC0 ∷ 0x07 ∷ 0x08 ∷ 0x0B ∷ 0x01 ∷ 0x65 ∷ 0x6E ∷ 0x67 ∷ 0x01 ∷ 0x00 ∷ 0x00 ∷ 0x03 ∷ 0x54 ∷ 0x65 ∷ 0x61 ∷ 0xF0 ∷ 0x00
    ∷ 0xCF ∷ 0x03 ∷ 0x90 ∷ 0x0B ∷ [])

-- source 8: no events
abbrev pub no_events : List ℕ
no_events =
    mark
    ++ (0x1D ∷ 0x00 ∷ 0xCB ∷ 0xF0 ∷ 0x0B ∷ 0x00 ∷ 0x08 ∷ 0xC7 ∷ 0x00 ∷ 0x00 ∷ 0x00 ∷ 0x00 ∷ 0x59 ∷ 0xA5 ∷ 0xAA ∷ 0xB8 ∷ [])

pub record Examples : Type 0 where
  pub both : listing (tea ++ no_events) ended
      ≡ ascii
      "guide lister\n0 pid 7424 eit 7 v3 0/0 events 1\nevent 5 start 1000 length 1800 title \"Tea\"\n1 pid 7424 eit 8 v3 0/0 events 0\nend 2\n"
  pub nothing : listing [] ended ≡ ascii "guide lister\nend 0\n"
