pub mod Pressures
pub mod Root
pub mod Worked
pub mod Laws
