-- Laws.
pub mod PlanLaws
pub mod FoldsLaws
pub mod PlanPasses
pub mod PassedPlan
pub mod UnitLaws
pub mod WholePlan
