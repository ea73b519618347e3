-- What functions over a section that was judged are lent.
use Rattle.std.specs.Prelude.{List, ℕ}
use Rattle.entry.specs.declared.Entry.TheVariants.{Event, Dimension}
use Rattle.entry.specs.Inner.{Begins}
use Rattle.section_text.specs.declared.field.Which.{Which}
use Rattle.section_text.specs.declared.field.Which.TheVariants.{Title, Advisory, Extended, RegionName, DimensionName, ShortText, LongText}

-- the entries among which the text stands begin within the bytes
abbrev pub Begun : List ℕ → Which → Type 0
Begun s (Title i) = Begins Event s
Begun s (Advisory i region) = Begins Event s
Begun s Extended = record {}
Begun s RegionName = Begins Dimension s
Begun s (DimensionName i) = Begins Dimension s
Begun s (ShortText i j) = Begins Dimension s
Begun s (LongText i j) = Begins Dimension s
