-- The body of an MGT part by part, shut, for proofs: the walk that the code is held to is that of Format.antt (law `same_walk`).
use Rattle.format.specs.Formats.{Format, Filling, seq, exact}
use Rattle.format.specs.Values.{One}
use Rattle.format.specs.Told.{counted16}
use Rattle.descriptor.specs.Descriptors.{no_tag}
use Rattle.descriptor.specs.Places.{list12}
use Rattle.mgt.specs.Format.{defined_format}

-- a table that an MGT defines
unfoldable pub defined : Format One
defined = defined_format

-- tables_defined 16, and the tables
unfoldable pub tables : Format One
tables = counted16 defined

unfoldable pub mgt : Filling One
mgt = exact (seq tables (list12 no_tag))
