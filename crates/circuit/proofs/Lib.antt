pub mod Placing
pub mod First
pub mod Bytes
