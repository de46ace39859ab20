-- Only passes between functions: the numbers that cycles and iterations hold.
pub mod Times
