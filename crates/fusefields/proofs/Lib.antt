pub mod Fronts
pub mod Judges
