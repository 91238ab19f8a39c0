pub mod Passed
pub mod Pins
