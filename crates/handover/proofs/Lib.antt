pub mod Copied
pub mod Files
pub mod Lent
pub mod Matching
