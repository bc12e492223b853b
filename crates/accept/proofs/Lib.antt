pub mod Slots
pub mod Stretches
pub mod Sums
pub mod Words
pub mod FreeMap
pub mod Parts
