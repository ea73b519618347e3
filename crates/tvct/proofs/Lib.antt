pub mod BodyLaws
pub mod ThereLaws
