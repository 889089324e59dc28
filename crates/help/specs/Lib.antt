pub mod Allowed
pub mod Help
pub mod Laws
