pub mod Spelling
pub mod Ends
