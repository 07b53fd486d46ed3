pub mod Meaning
pub mod Series
pub mod Laws
