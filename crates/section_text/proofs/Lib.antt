pub mod PlaceLaws
pub mod AdvisoryLaws
pub mod SoundLaws
