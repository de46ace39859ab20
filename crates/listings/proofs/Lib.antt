-- Laws.
pub mod SaidLaws
pub mod SheetPrint
pub mod OneResult
