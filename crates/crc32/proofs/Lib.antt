pub mod Laws
pub mod Table
pub mod Bursts
pub mod Division
