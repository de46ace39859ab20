-- Laws.
pub mod BlockLaws
pub mod TakenLaws
pub mod LineLaws
