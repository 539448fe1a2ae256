pub mod Writes
pub mod Cuts
