-- Laws.
pub mod RunLaws
pub mod ResultLaws
pub mod GivenLaws
