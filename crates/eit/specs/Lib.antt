-- Format, what is answered for its record in Values, and Given are what is believed. Walked is Format once more, for proofs; Titles, Fields and
-- Questions are what is read at the bits, which the laws `..-there` tie to Values; Inner is for functions over events and rows that were judged.
pub mod Format
pub mod Walked
pub mod Titles
pub mod Fields
pub mod Questions
pub mod Given
pub mod Inner
pub mod Values
