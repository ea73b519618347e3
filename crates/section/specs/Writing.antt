-- SCOPE 1.3 and 6, numbers 23, 8 and 24: a section that is written: its header's fields as given, and the tests of them.
use Rattle.std.specs.Prelude.{ℕ, ◌+◌, Bool, ltb, leb}
use Rattle.logic.specs.Loops.{◌&◌}
use Rattle.kind.specs.declared.Kind.{Kind}
use Rattle.kind.specs.Kinds.{limits_of}
use Rattle.section.specs.declared.write.Given.{Given}
use Rattle.section.specs.Encoding.{HeaderFields}

-- the header: reserved bits are ones
abbrev pub header_given : Given → HeaderFields
header_given g = record { r1 = 3; extension = g.extension; r2 = 3; version = g.version; current = g.current; number = g.number; last = g.last }

-- 23: each number has room in its field
unfoldable pub header_fits : Given → Bool
header_fits g = ltb g.extension 65536 & ltb g.version 32 & ltb g.current 2 & ltb g.number 256 & ltb g.last 256

-- 8: its number is at most the last, and the last at most its kind's
unfoldable pub numbers_fit : Kind → Given → Bool
numbers_fit k g = leb g.number g.last & leb g.last (limits_of k).last

-- 24: a section of n bytes is at most as long as its kind's may be, and has room in a buffer
unfoldable pub length_fits : Kind → ℕ → ℕ → Bool
length_fits k room n = leb n ((limits_of k).largest + 3) & leb n room
