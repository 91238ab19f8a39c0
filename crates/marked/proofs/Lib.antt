pub mod Fronts
pub mod Few
pub mod Marked
