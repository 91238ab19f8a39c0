pub mod Row
pub mod Setting
