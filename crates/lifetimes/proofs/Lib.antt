-- Laws.
pub mod CountedLaws
pub mod LiveSums
