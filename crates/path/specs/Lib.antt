pub mod Paths
pub mod Root
pub mod Worked
pub mod Laws
