pub mod Table
pub mod Acted
