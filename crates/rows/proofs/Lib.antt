pub mod RowsLaws
pub mod ValuesLaws
pub mod OnceLaws
