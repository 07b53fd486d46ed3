pub mod Lags
pub mod Readings
pub mod Matched
pub mod Worked
