-- What a read means for the input.
pub mod Reading
