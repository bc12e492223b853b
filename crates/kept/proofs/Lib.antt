-- Acceptance is kept: facts, then layers over the frame theorem, then the calls; and what a running enclave reaches.
pub mod Facts
pub mod Layers
pub mod Reach
pub mod Calls
