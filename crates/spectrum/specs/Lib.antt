pub mod Shapes
pub mod Granted
