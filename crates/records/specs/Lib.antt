-- What a reader must believe of what sheets and plans share: units and ops, limits, and the bytes of a record.
pub mod Units
pub mod Records
pub mod Numbers
-- Only passes between functions: what the readers of records answer.
pub mod Answers
