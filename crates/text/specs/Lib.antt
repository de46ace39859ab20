-- What a reader must believe of the text calls: what they answer and leave.
pub mod Texting
