-- What a reader must believe of words: their arithmetic, and what a loop over 0, 1, .., n − 1 gives.
pub mod Words
pub mod Loops
-- Only passes between functions: masks of slots.
pub mod Masks
