pub mod Meaning
pub mod Circuit
pub mod Settle
