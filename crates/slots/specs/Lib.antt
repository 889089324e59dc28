pub mod Lasting
pub mod Held
pub mod Window
pub mod Counts
pub mod Passing
