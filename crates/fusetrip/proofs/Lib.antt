pub mod Back
pub mod Defaults
pub mod Rows
pub mod Whole
pub mod Trip
pub mod Example
