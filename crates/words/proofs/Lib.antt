-- Laws.
pub mod Ints
pub mod LoopLaws
pub mod CountLaws
pub mod FaultLaws
pub mod FitLaws
pub mod FloorLaws
pub mod MaskLaws
pub mod WordLaws
