pub mod Faults
pub mod Numbers
pub mod Positions
pub mod Surveys
pub mod SurveyCursors
