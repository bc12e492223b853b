pub mod Image
pub mod Reader
pub mod Runs
pub mod Service
