mod Fills
mod PutFills
mod TakeFills
mod KeyEdits
pub mod Lemmas
