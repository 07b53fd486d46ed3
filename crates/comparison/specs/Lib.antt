pub mod Copied
pub mod Compared
pub mod Printed
pub mod Reported
