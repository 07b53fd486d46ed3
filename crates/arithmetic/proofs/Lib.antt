pub mod Series
pub mod Ladder
pub mod Totals
pub mod Circles
pub mod Divisors
pub mod Remainders
pub mod Turns
pub mod Vanishing
