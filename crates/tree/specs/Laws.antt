pub mod Looks
pub mod LeafLooks
pub mod PairLists
pub mod Put
pub mod Take
pub mod Pop
pub mod KeyEdit
