-- What each call is for: each file says of which calls it proves that. Assumes nothing.
-- ---- what a space finds at an address
pub mod Finds
-- ---- the families
pub mod Boot
pub mod Plain
pub mod Free
pub mod Made
pub mod Tables
pub mod Maps
pub mod Ended
pub mod Store
pub mod Interrupt
pub mod Resume
pub mod Silent
