pub mod NumberLaws
pub mod OutcomeLaws
pub mod OutputLaws
pub mod TestLaws
