-- Which table is meant, and the words that the code reads it by.
pub mod Words1
pub mod Words2
pub mod Which
