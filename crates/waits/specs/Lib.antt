-- Only passes between functions: what is asked of a sheet and of starts, and what waits are given.
pub mod Fine
