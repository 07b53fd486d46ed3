mod Filling
pub mod Granting
mod WritesBack
