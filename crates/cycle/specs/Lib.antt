-- What a reader must believe of one cycle: a step, and a run of steps.
pub mod Cycle
-- Only passes between functions: what the nodes of a slot give.
pub mod Given
