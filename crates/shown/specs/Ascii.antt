-- SCOPE 8.2 and 8.5: words and numbers as the bytes that print them.
use Rattle.std.specs.Prelude.{ℕ, zero, suc, ◌+◌, ◌/◌, ◌%◌, List, [] as nil, ◌∷◌ as ◌then◌, ◌++◌}
use Prim.Native.Char.{code}
use Prim.Native.String.{String, [], ◌∷◌}
use Rattle.logic.specs.Choices.{if_lt}

-- a word of ASCII characters
abbrev pub ascii : String → List ℕ
ascii [] = nil
ascii (c ∷ s) = code c then ascii s

-- a decimal digit
abbrev pub digit : ℕ → ℕ
digit d = 48 + d

-- the last digits of x, at most `most` of them, without zeros in front
unfoldable pub decimal_by : ℕ → ℕ → List ℕ
decimal_by zero x = nil
decimal_by (suc most) x = if_lt x 10 (digit x then nil) (decimal_by most (x / 10) ++ (digit (x % 10) then nil))

-- a number in decimal: it has no more than x + 1 digits
unfoldable pub decimal : ℕ → List ℕ
decimal x = decimal_by (suc x) x

-- a word and a number
unfoldable pub field : List ℕ → ℕ → List ℕ
field w x = w ++ decimal x

-- a capital hex digit
unfoldable pub hex_digit : ℕ → ℕ
hex_digit d = if_lt d 10 (48 + d) (55 + d)
