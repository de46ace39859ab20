-- Only passes between functions: the starts that totals of bounds say.
pub mod Starts
