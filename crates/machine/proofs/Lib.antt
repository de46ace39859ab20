-- Laws.
pub mod SteppingLaws
pub mod AdvanceLaws
pub mod CallLaws
pub mod OneResult
