-- Laws.
pub mod ConcatLaws
pub mod PlanBytes
pub mod JudgingLaws
pub mod ReadLaws
pub mod WholeLaws
