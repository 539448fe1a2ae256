pub mod Applications
pub mod Cursors
