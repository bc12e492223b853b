pub mod Form
pub mod Written
