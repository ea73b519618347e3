-- SCOPE 8.2 and 8.4: what is printed for a record, and the lines around the records.
use Rattle.std.specs.Prelude.{ℕ, List, ◌++◌}
use Rattle.record.specs.Records.{pid_in, section_in}
use Rattle.shown.specs.Ascii.{ascii, decimal, field}
use Rattle.lines.specs.Lines.{section_shown}

-- the first line
abbrev pub first_line : List ℕ
first_line = ascii "guide lister\n"

-- the last line: how many records there were
unfoldable pub last_line : ℕ → List ℕ
last_line n = field (ascii "end ") n ++ ascii "\n"

-- record n, which is whole at the front of r
unfoldable pub record_lines : ℕ → List ℕ → List ℕ
record_lines n r = decimal n ++ section_shown (pid_in r) (section_in r)

-- a bad record ends the run
unfoldable pub bad_lines : ℕ → List ℕ
bad_lines n = decimal n ++ (ascii " bad record\n" ++ last_line n)
