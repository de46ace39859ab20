-- Laws and theorems.
pub mod GraphLaws
pub mod TapLaws
pub mod SlotLaws
pub mod Folded
pub mod DemandOne
pub mod DemandTwo
pub mod DemandThree
pub mod Worked
pub mod Prints
pub mod Registers
pub mod WrongPrograms
pub mod Instances
