-- The laws that formats rest on hold: so each format's walk accepts exactly the encodings of its well-formed values.
use Rattle.std.specs.Prelude.{ℕ, ◌+◌, ◌*◌, ◌≡◌, List, [], ◌∷◌, ◌++◌}
use Rattle.format.specs.Lawful.{Lawful, Fills, total}
use Rattle.format.specs.Values.{Field, bits, width}
use Rattle.format.specs.Steps.{steps}
use Rattle.format.specs.Formats.{Format, Filling}
use Rattle.format.specs.Laws.OfTold.{steps_whole_by}
use Rattle.format.specs.Laws.Statements.{Laws}
use Rattle.format.proofs.StepLaws.{fields_law, steps_width}
use Rattle.format.proofs.HeadLaws.{head_law}
use Rattle.format.proofs.ContainerLaws.{exact_law, opt_law}
use Rattle.format.proofs.TimesLaws.{some_law, list_law}

pub laws : Laws
laws = record {
  fields_law = fields_law;
  head_law = head_law;
  steps_width = steps_width;
  exact_law = exact_law;
  opt_law = opt_law;
  some_law = some_law;
  list_law = list_law;
}

-- each format is lawful, and each that takes its whole container
pub lawful : {C : Type 0} (f : Format C) (c : C) → Lawful (f.walk c) (f.Formed c) f.enc
lawful f = f.law laws

pub fills : {C : Type 0} (f : Filling C) (c : C) → Fills (f.walk c) (f.Formed c) f.enc
fills f = f.law laws

-- the steps past fields and a last one of n bits have k bytes, where those have
module _ (fs : List Field) (n k : ℕ) (whole : width fs + n ≡ 8 * k) where
  pub steps_whole : total (steps (fs ++ (bits n ∷ []))) ≡ 8 * k
  steps_whole = steps_whole_by fs n k whole laws
