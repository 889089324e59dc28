pub mod Steps
pub mod Known
pub mod Laws
