pub mod Laws
mod Choice
mod Sixteens
pub mod Lists
mod Padding
pub mod Vectors
