pub mod Sums
pub mod Bytes
pub mod Fronts
pub mod Writes
pub mod Rewriting
