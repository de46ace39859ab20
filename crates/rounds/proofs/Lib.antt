-- Laws.
pub mod StepLaws
pub mod RowLaws
pub mod SheetNet
