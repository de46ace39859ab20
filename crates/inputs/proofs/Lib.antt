-- Laws.
pub mod LastLaws
pub mod InputLaws
