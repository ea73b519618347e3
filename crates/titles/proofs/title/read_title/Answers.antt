-- `read_title` meets its contract.
use native.Mathlib.Omega.{arith}
use Rattle.titles.specs.Titles.{title_told, told_of}
use Rattle.titles.specs.Inner.{told}
use Rattle.titles.proofs.ReadLaws.{title_short}
use Rattle.titles.proofs.title.read_title.Goals as goal

pub read_text-requires : goal.read_text-requires
read_text-requires c =
    title_short _ _ _ _ (λ i. omega (arith, c.type_inv.s i)) c.title_at.ensures c.in-Text.is

pub returns-in-None : goal.returns-in-None
unfolding title_told told_of told
returns-in-None c = record { tells = rw (← c.title_at.ensures, c.in-None.is); few = omega arith; rare = omega arith }

pub returns-in-NoStrings : goal.returns-in-NoStrings
unfolding title_told told_of told
returns-in-NoStrings c = record { tells = rw (← c.title_at.ensures, c.in-NoStrings.is); few = omega arith; rare = omega arith }

pub returns-in-Text : goal.returns-in-Text
unfolding title_told
returns-in-Text c = rw (← c.title_at.ensures, c.in-Text.is) c.read_text.ensures
