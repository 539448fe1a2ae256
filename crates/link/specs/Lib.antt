pub mod Fixing
pub mod Faults
pub mod Routes
pub mod Views
