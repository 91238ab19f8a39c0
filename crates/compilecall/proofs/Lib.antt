pub mod Once
pub mod Refusals
