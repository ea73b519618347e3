-- The definitions: the table of kinds.
pub mod Kinds
