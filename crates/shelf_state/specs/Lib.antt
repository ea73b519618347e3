-- The definitions, in reading order; Searches is for the calls, and Tests says how the code tests the rules.
pub mod Records
pub mod Rules
pub mod Searches
pub mod Tests
