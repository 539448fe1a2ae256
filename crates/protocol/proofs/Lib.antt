-- The proofs of the promises, from the bytes up.
pub mod Streams
pub mod Accounts
pub mod Pulls
pub mod Deliveries
pub mod Spans
pub mod Pages
pub mod Shown
pub mod Histories
pub mod Room
pub mod ZerosScan
pub mod ZerosPages
pub mod Zeros
pub mod Board
pub mod Written
