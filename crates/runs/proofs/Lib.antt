pub mod Underway
pub mod Polled
