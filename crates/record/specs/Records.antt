-- SCOPE 8.1: a record is the mark A5 5A, PID in two bytes, and a section: three bytes and as many more as their section_length says.
use Rattle.std.specs.Prelude.{ℕ, ◌+◌, ◌%◌, Bool, true, false, List, length, take, drop}
use Rattle.logic.specs.Choices.{if_lt, if_eq}
use Rattle.bytes_at.specs.Fields.{word_at}

abbrev pub mark_in : List ℕ → ℕ
mark_in r = word_at r 0

abbrev pub pid_in : List ℕ → ℕ
pid_in r = word_at r 2

-- what the section's own section_length says
abbrev pub length_in : List ℕ → ℕ
length_in r = word_at r 5 % 4096

-- the first bytes: the mark, PID and the three bytes of the section that end with section_length
abbrev pub head_size : ℕ
head_size = 7

-- after the first bytes so many are to come: none after a wrong mark, or where the input ends before
unfoldable pub to_come : List ℕ → ℕ
to_come r = if_lt (length r) head_size 0 (if_eq (mark_in r) 0xA55A (length_in r) 0)

-- whether the bytes are a whole record: the mark is right and nothing is cut
unfoldable pub whole : List ℕ → Bool
whole r = if_lt (length r) head_size false (if_eq (mark_in r) 0xA55A (if_lt (length r) (head_size + length_in r) false true) false)

-- the section of a whole record
abbrev pub section_in : List ℕ → List ℕ
section_in r = take (3 + length_in r) (drop 4 r)
