-- SCOPE 2.5: the body of an ETT, and its values by their names.
use Rattle.std.specs.Prelude.{ℕ, refl, List, [], ◌∷◌}
use Rattle.format.specs.Formats.{Filling, before, exact, under_all}
use Rattle.format.specs.Values.{One, Field, bits}
use Rattle.format.specs.Named.{named}
use Rattle.strings.specs.Strings.{structure}

-- ETM_id 32
abbrev pub etm_head : List Field
etm_head = bits 32 ∷ []

-- that; a text that fills the rest. What it is, is told by its format: a text that is not nothing, where an ETT is read; any bytes,
-- where they are given to be written
pub record EttOf (T : Type 0) : Type 0 where
  pub etm : ℕ
  pub text : T

abbrev pub ett_of : Filling One → Filling One
ett_of t =
    under_all (before (named etm_head 4 refl) t) {Y = EttOf t.Val} (λ e. ((e.etm, record {}), e.text))
    (λ x. record { etm = x.0.0; text = x.1 }) (λ x. refl) (λ y. refl)

abbrev pub EttFields : Type 0
EttFields = EttOf structure.Val

abbrev pub ett_format : Filling One
ett_format = ett_of (exact structure)
