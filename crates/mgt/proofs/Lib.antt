pub mod HeadLaws
pub mod DefinedLaws
pub mod BodyLaws
pub mod ThereLaws
