-- The laws and theorems of the crate.
pub mod TestLaws
pub mod Tested
