pub mod Writing
pub mod Summing
pub mod Numbers
