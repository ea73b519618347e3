pub mod FieldLaws
pub mod BitLaws
pub mod WalkLaws
