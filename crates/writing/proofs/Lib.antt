pub mod Cutting
pub mod Paging
pub mod Holding
