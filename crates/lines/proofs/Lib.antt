-- Laws of lines, and 01's prints.
pub mod LineLaws
pub mod Printed
