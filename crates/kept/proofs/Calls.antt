-- Every call keeps acceptance, and so does what outsiders do; then every record.
-- ---- calls 1-13
pub mod InitAddrSpace
pub mod InitThread
pub mod InitTable
pub mod AllocSpare
pub mod MapSecure
pub mod MapInsecure
pub mod Finalise
pub mod EnterThread
pub mod Resume
pub mod Stop
pub mod Remove
-- ---- calls 32-42
pub mod SpareTable
pub mod MapData
pub mod UnmapData
pub mod Interrupt
pub mod Ends
pub mod LoadStore
-- ---- calls that change nothing, outsiders, and every record
pub mod Still
pub mod Outsiders
pub mod Record
