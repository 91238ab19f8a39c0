pub mod Warshall
pub mod Marking
pub mod Meeting
