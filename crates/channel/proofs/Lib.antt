pub mod StepLaws
pub mod HeadLaws
pub mod RowLaws
pub mod ChannelLaws
pub mod ThereLaws
