-- Only passes between functions: choices, and the walk that they give.
pub mod Choices
