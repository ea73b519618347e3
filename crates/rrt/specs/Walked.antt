-- The body of an RRT part by part, shut, for proofs: the walk that the code is held to is that of Format.antt (law `same_walk`).
use Rattle.format.specs.Formats.{Format, Filling, seq, exact}
use Rattle.format.specs.Values.{One}
use Rattle.format.specs.Told.{not_none}
use Rattle.strings.specs.Strings.{sized_text}
use Rattle.descriptor.specs.Descriptors.{no_tag}
use Rattle.descriptor.specs.Places.{list10}
use Rattle.rrt.specs.Format.{value_format, dimension_format}

unfoldable pub value : Format One
value = value_format

unfoldable pub dimension : Format One
dimension = dimension_format

-- dimensions 8, not 0, and each of them
unfoldable pub dimensions : Format One
dimensions = not_none dimension

-- what follows the region name: the dimensions; r 6, length 10, descriptors
unfoldable pub dimensions_and_list : Format One
dimensions_and_list = seq dimensions (list10 no_tag)

unfoldable pub rrt : Filling One
rrt = exact (seq sized_text dimensions_and_list)
