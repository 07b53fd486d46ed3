pub mod Table
pub mod Entries
pub mod Bisection
