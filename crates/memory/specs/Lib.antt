-- What a reader must believe of the machine's memory.
pub mod Memory
-- Only passes between functions: what the parts of a step ask.
pub mod Taken
