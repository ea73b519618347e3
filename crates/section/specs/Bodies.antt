-- SCOPE 2: the body of a section, by its kind. A body fills what stands between the header and the checksum.
use Rattle.kind.specs.declared.Kind.{Kind}
use Rattle.kind.specs.declared.Kind.TheVariants.{Mgt, Tvct, Rrt, Eit, Ett}
use Rattle.format.specs.Formats.{Filling}
use Rattle.format.specs.Values.{One}
use Rattle.mgt.specs.Format.{mgt_format}
use Rattle.tvct.specs.Format.{tvct_format}
use Rattle.rrt.specs.Format.{rrt_format}
use Rattle.eit.specs.Format.{eit_format}
use Rattle.ett.specs.Format.{ett_format}

abbrev pub body_format : Kind → Filling One
body_format Mgt = mgt_format
body_format Tvct = tvct_format
body_format Rrt = rrt_format
body_format Eit = eit_format
body_format Ett = ett_format
