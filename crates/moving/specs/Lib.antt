-- Only passes between functions: what clearing and a step write.
pub mod Moving
