pub mod Fields
pub mod Texts
pub mod Reads
pub mod Pages
pub mod Sheets
