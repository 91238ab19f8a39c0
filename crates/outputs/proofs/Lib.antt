pub mod Counting
pub mod Trying
