pub mod Digits
pub mod Put
pub mod File
pub mod Outcome
