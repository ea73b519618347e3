pub mod ChoiceLaws
pub mod LoopLaws
pub mod CountLaws
pub mod TestLaws
