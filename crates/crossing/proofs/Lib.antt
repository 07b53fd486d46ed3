pub mod Fronts
pub mod Planning
pub mod Stepped
