pub mod Sixth
