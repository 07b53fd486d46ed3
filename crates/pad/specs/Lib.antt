pub mod Files
pub mod Printed
pub mod Reported
pub mod Worked
