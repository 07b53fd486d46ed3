mod Counting
mod Limits
mod Seconds
mod Spaces
mod Words
