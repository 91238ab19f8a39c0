pub mod Written
pub mod Still
pub mod One
pub mod Examples
