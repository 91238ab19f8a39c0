pub mod Setting
pub mod Values
pub mod Filling
pub mod Tabling
pub mod Marked
pub mod Reading
pub mod Cells
