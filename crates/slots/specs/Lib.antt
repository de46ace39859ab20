-- Only passes between functions: what the masks of occupied slots and of inputs fed say.
pub mod Slots
pub mod Feeding
