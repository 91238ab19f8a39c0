pub mod Sections
pub mod One
pub mod Examples
