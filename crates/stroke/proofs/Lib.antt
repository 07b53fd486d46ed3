pub mod Indexed
mod Samples
pub mod Beyond
pub mod Soundness
mod Trailer
pub mod Rows
mod Words
pub mod Encoded
pub mod ReadsBack
pub mod Granted
mod FirstNamed
