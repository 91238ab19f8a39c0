pub mod Sound
pub mod Emits
pub mod Calling
