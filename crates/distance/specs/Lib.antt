pub mod Sums
pub mod Checked
pub mod Distance
