pub mod Descriptor
pub mod Progress
pub mod Begins
pub mod Finalizing
pub mod Unmentioned
pub mod Laws
pub mod Common
