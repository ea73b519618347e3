-- Format, and what is answered for its record in Values, are what is believed. Walked is Format once more, for proofs, and Fields what is read at
-- the bits, which the laws `..-there` tie to Values.
pub mod Format
pub mod Walked
pub mod Fields
pub mod Values
