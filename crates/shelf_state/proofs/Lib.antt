pub mod SearchLaws
pub mod RecordLaws
pub mod RuleLaws
pub mod FlagLaws
pub mod WatchLaws
pub mod DropLaws
