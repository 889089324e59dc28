pub mod LeafEdit
pub mod Put
pub mod Take
pub mod Pop
pub mod KeyEdit
pub mod Laws
