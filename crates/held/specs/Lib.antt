pub mod Streams
pub mod Views
