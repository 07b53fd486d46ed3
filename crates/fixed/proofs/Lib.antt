pub mod Words
pub mod Rounding
pub mod Range
pub mod Turning
