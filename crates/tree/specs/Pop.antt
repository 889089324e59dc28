pub mod Means
pub mod Laws
