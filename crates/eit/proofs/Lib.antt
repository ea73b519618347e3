pub mod HeadLaws
pub mod RowLaws
pub mod EventLaws
pub mod EventsLaws
pub mod TitleLaws
pub mod ThereLaws
pub mod GivenLaws
pub mod WriteLaws
