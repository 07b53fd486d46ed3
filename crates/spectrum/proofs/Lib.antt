pub mod Sums
pub mod Columns
pub mod Schedule
pub mod Granting
pub mod Toned
pub mod Parts
