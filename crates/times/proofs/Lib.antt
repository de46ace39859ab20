-- Laws.
pub mod ArrayLaws
pub mod OrderLaws
