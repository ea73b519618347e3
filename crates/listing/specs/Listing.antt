-- SCOPE 8: the whole output of the lister, from its input and how that ended.
use Rattle.std.specs.Prelude.{ℕ, zero, suc, ◌+◌, List, ◌++◌, length, drop}
use Rattle.logic.specs.Choices.{pick, if_eq}
use Rattle.record.specs.Records.{head_size, length_in, whole}
use Rattle.lines.specs.Records.{first_line, last_line, record_lines, bad_lines}

-- 8.1 and 8.6: the input came to its end, or it could not be read any further
pub data Ending : Type 0 where
  ended : Ending
  unread : Ending

-- 8.4 and 8.6: where no whole record is at the front: the last line, if the input ended and nothing is left of it, and else a bad record
unfoldable pub stop_lines : ℕ → List ℕ → Ending → List ℕ
stop_lines n s ended = if_eq (length s) 0 (last_line n) (bad_lines n)
stop_lines n s unread = bad_lines n

-- 8.1: what follows the record at the front
abbrev pub after_record : List ℕ → List ℕ
after_record s = drop (head_size + length_in s) s

-- the lines of at most `most` records, from number n on, and those that end the run
unfoldable pub lines_from : ℕ → ℕ → List ℕ → Ending → List ℕ
lines_from zero n s e = stop_lines n s e
lines_from (suc most) n s e = pick (whole s) (record_lines n s ++ lines_from most (suc n) (after_record s) e) (stop_lines n s e)

-- 8.2: a record has bytes, so there are not more records than bytes
unfoldable pub listing : List ℕ → Ending → List ℕ
listing s e = first_line ++ lines_from (length s) 0 s e
