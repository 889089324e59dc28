pub mod Kinds
pub mod Touches
pub mod Reads
pub mod Unmarked
pub mod Fresh
pub mod Rests
pub mod Steps
pub mod Left
