pub mod Table
pub mod Fresh
