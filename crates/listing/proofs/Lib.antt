pub mod StepLaws
pub mod FrontLaws
pub mod RunLaws
pub mod NextLaws
pub mod FitLaws
pub mod ExampleLaws
