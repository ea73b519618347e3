-- `dimension_end` meets its contract.
use Rattle.rrt.specs.Fields.{dimension_end}
use Rattle.rrt.proofs.EndLaws.{dimension_begins, dimension_values}
use Rattle.rrt.proofs.dimension.dimension_end.Goals as goal

pub values-requires : goal.values-requires
values-requires c = dimension_begins _ _ c.requires

pub first_value-requires : goal.first_value-requires
first_value-requires c = dimension_begins _ _ c.requires

pub values_end-requires : goal.values_end-requires
values_end-requires c =
    rw (c.values.ensures.0, c.first_value.ensures) (dimension_values _ _ c.requires)

pub returns : goal.returns
unfolding dimension_end
returns c = rw (← c.values.ensures.0, ← c.first_value.ensures) c.values_end.ensures
