-- Laws.
pub mod RingLaws
pub mod TurnLaws
pub mod ShownLaws
