-- Laws.
pub mod ReadingLaws
pub mod NodeLaws
pub mod ByteLaws
pub mod AnswerLaws
pub mod FrontLaws
pub mod NumberLaws
