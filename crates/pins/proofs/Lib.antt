pub mod Naming
pub mod Choosing
pub mod Keeping
pub mod Resting
