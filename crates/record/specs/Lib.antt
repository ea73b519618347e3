-- The definitions: the frame of a record.
pub mod Records
