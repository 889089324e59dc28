pub mod Status
pub mod Printed
pub mod Threaded
pub mod Audited
