-- What a reader must believe of the cycle machine: what the calls answer and leave on every input.
pub mod Stepping
pub mod Calls
