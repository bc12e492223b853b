pub mod Batch
pub mod Turns
pub mod Service
