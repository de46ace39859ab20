-- What a reader must believe of plans: their bytes, and the first fault of any bytes.
pub mod Plan
pub mod Judging
-- Only passes between functions: headers and joints as the code holds them.
pub mod Heads
