-- The body of an EIT part by part, shut, for proofs: the walk that the code is held to is that of Format.antt (law `same_walk`).
use Rattle.format.specs.Formats.{Format, Filling, exact}
use Rattle.format.specs.Values.{One}
use Rattle.format.specs.Told.{counted8}
use Rattle.eit.specs.Format.{event_format}

unfoldable pub event : Format One
event = event_format

-- count 8, and the events
unfoldable pub events : Format One
events = counted8 event

unfoldable pub eit : Filling One
eit = exact events
