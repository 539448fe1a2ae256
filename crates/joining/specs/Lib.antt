pub mod Joining
pub mod Views
