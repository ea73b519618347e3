-- The step table of a decode table, where its entries lead, and the words that the code reads it by.
pub mod Steps
pub mod Reaches
pub mod Words1
pub mod Words2
pub mod Words
