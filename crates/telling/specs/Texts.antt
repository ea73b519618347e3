-- Which text of a section four numbers ask for: the kind of text, the numbers of its entries, and the string. SCOPE 4 and 6.
use Rattle.std.specs.Prelude.{ℕ, List, get_or, Option, None, Some}
use Rattle.logic.specs.Choices.{if_eq}
use Rattle.refusal.specs.Outcomes.{Outcome, refused}
use Rattle.text.specs.declared.answer.Amount.{Amount}
use Rattle.text.specs.declared.answer.Heading.{Heading}
use Rattle.text.specs.Answers.{amount_of}
use Rattle.text.specs.Texts.{fitting}
use Rattle.section_text.specs.declared.field.Which.{Which}
use Rattle.section_text.specs.declared.field.Which.TheVariants.{Title, Advisory, Extended, RegionName, DimensionName, ShortText, LongText}
use Rattle.section_text.specs.Texts.{text_count, text_heading, text_units, text_replaced}

-- the seven kinds of text
unfoldable pub text_of : ℕ → ℕ → ℕ → Option Which
text_of kind i j =
    if_eq kind 1 (Some (Title i))
    (if_eq kind 2 (Some (Advisory i j))
    (if_eq kind 3 (Some Extended)
    (if_eq kind 4 (Some RegionName)
    (if_eq kind 5 (Some (DimensionName i))
    (if_eq kind 6 (Some (ShortText i j))
    (if_eq kind 7 (Some (LongText i j)) None))))))

abbrev pub which_of : List ℕ → Option Which
which_of q = text_of (get_or q 0 0) (get_or q 1 0) (get_or q 2 0)

abbrev pub string_of : List ℕ → ℕ
string_of q = get_or q 3 0

-- 13 for a kind that is none of the seven, before the section is judged
unfoldable pub of_text : {A : Type 0} → Option Which → (Which → Outcome A) → Outcome A
of_text None f = refused 13
of_text (Some w) f = f w

-- ---- what a section s answers to the four numbers q
abbrev pub asked_count : List ℕ → List ℕ → Outcome ℕ
asked_count s q = of_text (which_of q) (λ w. text_count s w)

abbrev pub asked_heading : List ℕ → List ℕ → Outcome Heading
asked_heading s q = of_text (which_of q) (λ w. text_heading s w (string_of q))

abbrev pub asked_amount : List ℕ → List ℕ → Outcome Amount
asked_amount s q = of_text (which_of q) (λ w. amount_of (text_replaced s w (string_of q)) (text_units s w (string_of q)))

-- the same, and the units themselves, where there is room for so many
abbrev pub fitting_amount : List ℕ → List ℕ → ℕ → Outcome Amount
fitting_amount s q room = of_text (which_of q) (λ w. amount_of (text_replaced s w (string_of q)) (fitting room (text_units s w (string_of q))))

abbrev pub fitting_units : List ℕ → List ℕ → ℕ → Outcome (List ℕ)
fitting_units s q room = of_text (which_of q) (λ w. fitting room (text_units s w (string_of q)))
