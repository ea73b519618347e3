-- The body of an ETT, shut, for proofs: the walk that the code is held to is that of Format.antt (law `same_walk`).
use Rattle.format.specs.Formats.{Filling}
use Rattle.format.specs.Values.{One}
use Rattle.ett.specs.Format.{ett_format}

unfoldable pub ett : Filling One
ett = ett_format
