-- What only definitions outside the core use: a list changed element by element, and two tests compared.
use Rattle.std.specs.Prelude.{ℕ, zero, suc, Bool, true, false, not, List, get_or, set}

-- a list whose first n elements are changed by f
unfoldable pub each : {A : Type 0} → ℕ → (A → A) → A → List A → List A
each zero f d l = l
each (suc n) f d l = set (each n f d l) n (f (get_or (each n f d l) n d))

-- two tests that come out alike
unfoldable pub equal_bool : Bool → Bool → Bool
equal_bool true b = b
equal_bool false b = not b
