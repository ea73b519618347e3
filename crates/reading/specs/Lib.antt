-- The definitions, in reading order.
pub mod Mgts
pub mod Tvcts
pub mod Rrts
pub mod Eits
pub mod Etts
