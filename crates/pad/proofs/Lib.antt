mod Granting
mod Samples
mod Spectra
