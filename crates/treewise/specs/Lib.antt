pub mod Unrolled
pub mod Declared
pub mod Staged
