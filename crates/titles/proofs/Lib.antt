pub mod ReadLaws
pub mod TitlesLaws
pub mod KeepLaws
