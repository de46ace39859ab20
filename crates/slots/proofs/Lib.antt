-- Laws.
pub mod TableLaws
pub mod SlotLaws
pub mod FeedingLaws
pub mod FedLaws
