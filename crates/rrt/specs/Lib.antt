-- Format, and what is answered for its record in Values, are what is believed. Walked is Format once more, for proofs, Fields what is read at
-- the bits, which the laws `..-there` tie to Values, and Inner for functions over dimensions and values that were judged.
pub mod Format
pub mod Walked
pub mod Fields
pub mod Inner
pub mod Values
