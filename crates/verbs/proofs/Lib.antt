pub mod Files
pub mod Asking
