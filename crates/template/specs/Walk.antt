pub mod Steps
pub mod Known
pub mod Places
pub mod Laws
