pub mod Obeying
pub mod Obeyed
pub mod Cut
pub mod Turns
