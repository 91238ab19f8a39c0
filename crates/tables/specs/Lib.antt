pub mod Tables
pub mod Memory
pub mod Answered
pub mod Ready
