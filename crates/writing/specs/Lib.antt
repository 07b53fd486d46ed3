pub mod Lending
pub mod Written
