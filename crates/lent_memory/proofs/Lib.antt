pub mod GatherLaws
pub mod EqualLaws
pub mod RowLaws
pub mod ReplyLaws
