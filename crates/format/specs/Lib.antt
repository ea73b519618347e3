-- Values, Repeats, Language and Listed are what is believed, in this order. The others are how the words of Language are made, each with the walk and the
-- law that a format carries; they stand as they build on one another.
pub mod Values
pub mod Repeats
pub mod Lawful
pub mod Steps
pub mod Laws
pub mod Formats
pub mod Heads
pub mod Named
pub mod Told
pub mod Language
pub mod Listed
