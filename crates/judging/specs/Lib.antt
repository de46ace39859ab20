-- Only passes between functions: what judging any bytes as a plan answers.
pub mod Answers
