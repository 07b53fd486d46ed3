pub mod Answers
pub mod Plans
pub mod Spectra
pub mod Runs
pub mod Sheets
