-- The body of a section by its kind, part by part and shut, for proofs: the walk that the code is held to is that of Bodies.antt (law
-- `same_walk` of KindLaws).
use Rattle.kind.specs.declared.Kind.{Kind}
use Rattle.kind.specs.declared.Kind.TheVariants.{Mgt, Tvct, Rrt, Eit, Ett}
use Rattle.format.specs.Formats.{Filling}
use Rattle.format.specs.Values.{One}
use Rattle.mgt.specs.Walked.{mgt}
use Rattle.tvct.specs.Walked.{tvct}
use Rattle.rrt.specs.Walked.{rrt}
use Rattle.eit.specs.Walked.{eit}
use Rattle.ett.specs.Walked.{ett}

-- the body by its kind: its walk is that of Bodies.antt (law `same_walk`)
unfoldable pub body_of : Kind → Filling One
body_of Mgt = mgt
body_of Tvct = tvct
body_of Rrt = rrt
body_of Eit = eit
body_of Ett = ett
