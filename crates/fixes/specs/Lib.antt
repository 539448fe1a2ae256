pub mod Keys
pub mod Values
pub mod Thousandths
pub mod Ranking
pub mod Views
