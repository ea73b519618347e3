pub mod FieldLaws
pub mod TextLaws
pub mod WritingLaws
