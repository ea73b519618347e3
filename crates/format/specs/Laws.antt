-- The laws that formats carry, from the bottom up.
pub mod OfBytes
pub mod OfHeads
pub mod OfContainers
pub mod OfRepeats
pub mod Statements
pub mod OfValues
pub mod OfNamed
pub mod OfTold
pub mod OfFull
