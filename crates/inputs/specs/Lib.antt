-- Only passes between functions: the words at the inputs.
pub mod Inputs
