pub mod Map
pub mod Counts
pub mod Kind
