pub mod BothLaws
pub mod PutLaws
pub mod TitleLaws
pub mod AnswerLaws
pub mod FewLaws
