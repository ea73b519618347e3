pub mod TestLaws
pub mod EttLaws
pub mod EitLaws
pub mod ReadLaws
pub mod AgainLaws
pub mod KeepLaws
pub mod UselessLaws
