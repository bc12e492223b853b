pub mod Bytes
pub mod Maps
pub mod Words
