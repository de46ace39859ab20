-- Laws.
pub mod AnswerLaws
pub mod HeadLaws
pub mod PartLaws
pub mod RunLaws
pub mod SwitchLaws
pub mod FigureLaws
pub mod FeedLaws
