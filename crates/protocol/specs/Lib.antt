-- What a link does by its rules, and what follows for every history of it.
pub mod Links
pub mod Pulls
pub mod Runs
pub mod Reports
pub mod Spans
pub mod Roomless
pub mod Promises
pub mod Written
