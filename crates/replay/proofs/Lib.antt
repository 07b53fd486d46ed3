mod Opened
mod Playing
mod Replaying
