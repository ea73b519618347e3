pub mod WithinLaws
pub mod OnceLaws
