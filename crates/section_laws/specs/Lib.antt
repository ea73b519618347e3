-- The definitions, in reading order: what is told of a record, the statements, and the same of all titles and rows at once; Samples are
-- records by which the statements are shown to have content.
pub mod Told
pub mod Accepted
pub mod Ours
pub mod Parts
pub mod Titled
pub mod Rows
pub mod Samples
