-- Laws.
pub mod FineLaws
pub mod WaitSizes
pub mod LongestLaws
