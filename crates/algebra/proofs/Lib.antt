pub mod Integers
pub mod Iterated
pub mod Pairs
pub mod Primes
pub mod Ranges
pub mod Remainders
pub mod Ring
pub mod Sizes
