-- What a reader must believe of the text of a plan and of a refusal: every byte of it, and 01's prints.
pub mod Text
pub mod Prints
