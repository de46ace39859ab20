-- Only passes between functions: bytes laid over a lent slice.
pub mod Laid
