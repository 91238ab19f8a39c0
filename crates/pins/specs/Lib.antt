pub mod Named
pub mod Variables
pub mod Memory
