pub mod SmallLaws
pub mod AskedLaws
pub mod TextLaws
pub mod CountLaws
pub mod WholeLaws
