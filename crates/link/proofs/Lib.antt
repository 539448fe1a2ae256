pub mod Buffers
pub mod Fronts
pub mod Opens
pub mod Shifts
pub mod Progress
pub mod Running
