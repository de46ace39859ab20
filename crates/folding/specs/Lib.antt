-- What a reader must believe of folding: walks and the latest retiming, waits, live cycles and registers.
pub mod Walks
pub mod Latest
pub mod Folding
pub mod Lifetime
-- Only passes between functions: one node's total after k rounds, where a slot's first live cycle falls, and nets that say the same.
pub mod Round
pub mod Offset
pub mod Alike
