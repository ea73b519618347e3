-- The definitions, in reading order: what the printed lists mean, how a table is read, what is shown of the two.
pub mod Codes
pub mod Printed1
pub mod Printed2
pub mod Tree
pub mod Table1
pub mod Table2
pub mod Test
pub mod Meaning
