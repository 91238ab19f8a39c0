pub mod Laws
pub mod Large
pub mod Once
pub mod Refusals
