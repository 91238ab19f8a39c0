pub mod Outputs
pub mod Trial
