-- The definitions, in reading order.
pub mod Told
pub mod Sections
pub mod Tables
pub mod Ratings
pub mod Fields
pub mod Texts
pub mod Titled
pub mod Writers
