-- The laws of walks and steps, and of packed entries.
pub mod WalkLaws
pub mod StepLaws
pub mod Packed
