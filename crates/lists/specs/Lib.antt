pub mod Lists
pub mod Sieve
