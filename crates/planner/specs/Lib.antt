-- What a reader must believe of the planner: what the call answers and leaves on every input.
pub mod Planning
pub mod Calls
pub mod Figures
-- Only passes between functions: what is known of a retiming.
pub mod Timed
