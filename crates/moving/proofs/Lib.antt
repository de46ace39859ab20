-- Laws.
pub mod ShiftLaws
pub mod MovingLaws
