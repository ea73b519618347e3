-- The definitions: by the values of a list, which is what is believed, and at its bytes.
pub mod Values
pub mod Ratings
