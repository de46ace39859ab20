-- Laws.
pub mod ShiftLaws
