pub mod OnceLaws
pub mod TestLaws
pub mod EttLaws
pub mod EitLaws
