pub mod Boards
pub mod Counting
