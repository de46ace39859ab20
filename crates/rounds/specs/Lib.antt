-- Only passes between functions: the net that a sheet's bytes say, and what its rounds answer.
pub mod Rounds
pub mod NetOf
pub mod Settling
