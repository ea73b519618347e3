-- Equal meanings are equal answers.
use mathlib.Core.Path.{◌≡◌, refl, sym, ap, ◌∙◌}
use Rattle.rating.specs.declared.Rating.{Rating}
use Rattle.rating.specs.declared.Rating.TheVariants.{NoAdvisory, RegionAbsent, DimensionAbsent, Value}
use Rattle.rating.specs.Ratings.{rated_of}
use Rattle.rating.specs.Values.{Rated, no_advisory, region_absent, dimension_absent, value}

pub rating_for : Rated → Rating
rating_for no_advisory = NoAdvisory
rating_for region_absent = RegionAbsent
rating_for dimension_absent = DimensionAbsent
rating_for (value v) = Value v

pub rating_back : (x : Rating) → rating_for (rated_of x) ≡ x
unfolding rating_for
rating_back NoAdvisory = refl
rating_back RegionAbsent = refl
rating_back DimensionAbsent = refl
rating_back (Value v) = refl

pub rating_once : (x y : Rating) → rated_of x ≡ rated_of y → x ≡ y
rating_once x y e = sym (rating_back x) ∙ ap rating_for e ∙ rating_back y
