-- Laws of loops and of the calls' answers.
pub mod LoopLaws
pub mod OneResult
pub mod TextingLaws
