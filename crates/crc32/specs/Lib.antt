pub mod Crc32
pub mod Division
pub mod Slices
