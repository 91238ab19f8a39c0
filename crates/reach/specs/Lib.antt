pub mod Uses
pub mod Reach
pub mod Meeting
pub mod Table
