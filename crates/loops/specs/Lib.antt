-- Only passes between functions: the loop that is shown, and the steps that find it.
pub mod Shown
