pub mod FieldLaws
pub mod WalkLaws
pub mod ThereLaws
pub mod EndLaws
pub mod RowLaws
