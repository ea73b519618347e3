-- Views and Steps are read first. Answers, Calls and Delivery say what the promises cite, by the records of a shelf, and Inner is for what stands behind
-- the calls.
pub mod Views
pub mod Answers
pub mod Calls
pub mod Delivery
pub mod Steps
pub mod Inner
