pub mod EntryLaws
pub mod ValueLaws
pub mod RecordLaws
