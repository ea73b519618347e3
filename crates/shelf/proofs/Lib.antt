pub mod CallLaws
pub mod EditLaws
pub mod PlaceLaws
pub mod JudgeLaws
pub mod OwnerLaws
pub mod CarriedLaws
pub mod InnerLaws
pub mod OnceLaws
