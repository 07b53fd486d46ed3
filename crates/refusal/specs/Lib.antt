pub mod Faults
pub mod Printed
