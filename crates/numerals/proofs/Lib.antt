-- Laws of digits and of what writers laid.
pub mod DigitLaws
pub mod WroteLaws
pub mod NumberLaws
pub mod WrittenLaws
