-- SCOPE 1.5: the table of kinds, and SCOPE 6, number 2: which kind a table_id names.
use Rattle.std.specs.Prelude.{ℕ, true, Option, Some, None}
use Rattle.kind.specs.declared.Kind.{Kind}
use Rattle.kind.specs.declared.Kind.TheVariants.{Mgt, Tvct, Rrt, Eit, Ett}
use Rattle.kind.specs.declared.Limits.{Limits}
use Rattle.logic.specs.Choices.{if_eq}
use Rattle.refusal.specs.declared.Refusal.TheVariants.{ProtocolVersion}

-- the column table_id
abbrev pub table_id_of : Kind → ℕ
table_id_of Mgt = 0xC7
table_id_of Tvct = 0xC8
table_id_of Rrt = 0xCA
table_id_of Eit = 0xCB
table_id_of Ett = 0xCC

-- the columns smallest, largest and last_section_number ("any" is any byte, "0 only" is 0); the byte that must be 0 is
-- protocol_version, with its refusal; the body stands after the nine bytes of the header; every kind of the base may be watched
abbrev pub limits_of : Kind → Limits
limits_of Mgt = record { smallest = 14; largest = 4093; last = 0; zero_byte = 8; zero_refusal = ProtocolVersion; body = 9; watched = true }
limits_of Tvct = record { smallest = 13; largest = 1021; last = 255; zero_byte = 8; zero_refusal = ProtocolVersion; body = 9; watched = true }
limits_of Rrt = record { smallest = 18; largest = 1021; last = 0; zero_byte = 8; zero_refusal = ProtocolVersion; body = 9; watched = true }
limits_of Eit = record { smallest = 11; largest = 4093; last = 255; zero_byte = 8; zero_refusal = ProtocolVersion; body = 9; watched = true }
limits_of Ett = record { smallest = 15; largest = 4093; last = 0; zero_byte = 8; zero_refusal = ProtocolVersion; body = 9; watched = true }

-- test 2 of a call that reads one kind
unfoldable pub only_of : Kind → ℕ → Option Kind
only_of k id = if_eq id (table_id_of k) (Some k) None

-- test 2 of a call that reads all five
unfoldable pub kind_of : ℕ → Option Kind
kind_of id =
    if_eq id (table_id_of Mgt) (Some Mgt)
    (if_eq id (table_id_of Tvct) (Some Tvct)
    (if_eq id (table_id_of Rrt) (Some Rrt)
    (if_eq id (table_id_of Eit) (Some Eit)
    (if_eq id (table_id_of Ett) (Some Ett) None))))
