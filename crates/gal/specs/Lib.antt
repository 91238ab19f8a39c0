pub mod Map
pub mod Refuse
pub mod Show
pub mod Clock
pub mod Model
