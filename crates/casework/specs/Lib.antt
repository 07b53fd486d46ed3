pub mod Spelling
pub mod Listed
pub mod Most
