-- What a reader must believe of numerals: words and numbers as bytes.
pub mod Numerals
-- Only passes between functions: what a writer of them does.
pub mod Wrote
pub mod Written
