pub mod Placed
pub mod Pins
pub mod StageFive
pub mod Roles
pub mod Judged
