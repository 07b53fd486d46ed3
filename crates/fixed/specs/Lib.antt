pub mod Range
pub mod Rounding
pub mod Turning
pub mod Pairs
pub mod Worked
pub mod Laws
