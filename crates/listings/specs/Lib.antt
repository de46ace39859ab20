-- What a reader must believe of a sheet's listing.
pub mod Listing
-- Only passes between functions: the fault and the text of an answer by its cases.
pub mod Said
