pub mod Once
pub mod Nothing
