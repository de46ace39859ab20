-- Laws.
pub mod LaidLaws
pub mod RecordLaws
