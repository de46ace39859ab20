-- Only passes between functions: live counts in code.
pub mod Counts
