pub mod Tones
pub mod Stages
pub mod Spectra
pub mod SpectraLaws
pub mod Moves
pub mod ByBlocks
