-- What an accepted state gives and what makes one: sums, layouts, mappings, tables, and the effects on a ledger that is exact.
pub mod Sums
pub mod Layouts
pub mod Mappings
pub mod Leaves
pub mod Exact
pub mod Bridge
pub mod Wrote
pub mod Acting
