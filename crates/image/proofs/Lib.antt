pub mod Inside
pub mod Laid
pub mod Payload
pub mod Made
pub mod Placed
pub mod Taken
pub mod Good
pub mod Spare
