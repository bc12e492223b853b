pub mod Accept
pub mod Checks
