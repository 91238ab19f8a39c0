pub mod Zero
pub mod Lists
