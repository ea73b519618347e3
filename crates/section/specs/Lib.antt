-- The definitions, in reading order; Answers says what the code's answers mean, and Walked is for proofs.
pub mod Headers
pub mod Bodies
pub mod Walked
pub mod Sections
pub mod Answers
pub mod Encoding
pub mod Writing
