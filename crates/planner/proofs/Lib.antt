-- Laws.
pub mod PlanningLaws
pub mod NetLaws
pub mod AnswerLaws
pub mod LoopLaws
pub mod OneResult
pub mod FigureLaws
