-- What is promised: the unfolded graph, runs, the three demands as types, and the sheets worked by hand.
pub mod Graph
pub mod Running
pub mod Demands
pub mod Cases
