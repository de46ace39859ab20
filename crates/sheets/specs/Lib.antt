-- What a reader must believe of sheets: their bytes, the first fault of any bytes, and what a sound sheet is.
pub mod Sheet
pub mod Sound
-- Only passes between functions: what reading a sheet answers.
pub mod Answers
