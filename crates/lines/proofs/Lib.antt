pub mod EventLaws
pub mod SectionLaws
pub mod FitLaws
