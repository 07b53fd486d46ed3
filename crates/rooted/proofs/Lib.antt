pub mod Ring
pub mod Rooted
pub mod Tables
