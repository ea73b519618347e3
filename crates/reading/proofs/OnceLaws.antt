-- Equal meanings are equal answers, also where a rating is answered, of which something else is told than it is.
use mathlib.Core.Path.{◌≡◌}
use Rattle.std.specs.Prelude.{Result}
use Rattle.refusal.specs.declared.Refusal.{Refusal}
use Rattle.refusal.specs.Outcomes.{outcome_by}
use Rattle.refusal.proofs.OutcomeLaws.{outcome_by_once}
use Rattle.rating.specs.declared.Rating.{Rating}
use Rattle.rating.specs.Ratings.{rated_of}
use Rattle.rating.proofs.OnceLaws.{rating_for, rating_back}

pub rating_once : (x y : Result Rating Refusal) → outcome_by rated_of x ≡ outcome_by rated_of y → x ≡ y
rating_once = outcome_by_once rated_of rating_for rating_back
