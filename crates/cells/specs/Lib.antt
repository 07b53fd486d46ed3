pub mod Plain
pub mod Cells
pub mod Holding
pub mod Opening
pub mod Played
pub mod SheetLaws
pub mod Lent
