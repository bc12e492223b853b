pub mod Views
pub mod Effects
pub mod Ones
pub mod Puts
pub mod Short
