-- Laws.
pub mod RoundLaws
pub mod OnceLaws
pub mod LoopFound
pub mod WaitLaws
pub mod StartLaws
pub mod FoldingLaws
pub mod LiveLaws
pub mod SizeLaws
pub mod WaitingLaws
pub mod AlikeLaws
pub mod SettleLaws
