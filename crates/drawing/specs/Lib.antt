-- What a reader must believe of plans that are drawn: the plan of a sheet, and what it is for a plan to fold a sheet.
pub mod PlanOf
pub mod Folds
-- Only passes between functions: the bytes of its first records.
pub mod Laying
