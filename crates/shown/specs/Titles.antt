-- SCOPE 8.3 and 8.5: how a title is shown.
use Rattle.std.specs.Prelude.{ℕ, ◌/◌, ◌%◌, List, [], ◌∷◌, ◌++◌, Bool, true, false}
use Rattle.logic.specs.Choices.{pick, if_lt, if_eq}
use Rattle.part.specs.Parts.{end_of}
use Rattle.refusal.specs.Outcomes.{Outcome, refused, resulted}
use Rattle.eit.specs.declared.event.Title.{Title}
use Rattle.eit.specs.declared.event.Title.TheVariants.{None, NoStrings, Text}
use Rattle.text.specs.Strings.{string_units}
use Rattle.shown.specs.Ascii.{ascii, decimal, hex_digit}

-- \u and four capital hex digits
unfoldable pub escaped : ℕ → List ℕ
escaped u = 92 ∷ 117 ∷ hex_digit (u / 4096) ∷ hex_digit (u / 256 % 16) ∷ hex_digit (u / 16 % 16) ∷ hex_digit (u % 16) ∷ []

-- units 32 to 126 but " (34) and \ (92) print plainly
unfoldable pub plain : ℕ → Bool
plain u = if_lt u 32 false (if_lt 126 u false (if_eq u 34 false (if_eq u 92 false true)))

unfoldable pub shown : ℕ → List ℕ
shown u = pick (plain u) (u ∷ []) (escaped u)

unfoldable pub all_shown : List ℕ → List ℕ
all_shown [] = []
all_shown (u ∷ us) = shown u ++ all_shown us

-- the text in quotes, or the number of its refusal
unfoldable pub text_shown : Outcome (List ℕ) → List ℕ
text_shown (refused k) = ascii "refused " ++ decimal k
text_shown (resulted us) = ascii "\"" ++ (all_shown us ++ ascii "\"")

-- a title shows its first string
unfoldable pub title_shown : List ℕ → Title → List ℕ
title_shown s None = ascii "none"
title_shown s NoStrings = ascii "empty"
title_shown s (Text p) = text_shown (string_units s (end_of p) p.start 0)
