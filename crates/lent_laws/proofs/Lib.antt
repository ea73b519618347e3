pub mod EqualLaws
pub mod MeaningLaws
pub mod TripLaws
pub mod MadeLaws
pub mod NumberLaws
pub mod StepLaws
pub mod ZeroLaws
