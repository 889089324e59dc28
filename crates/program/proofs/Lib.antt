pub mod Deserved
mod Audits
mod Beginnings
mod MapModes
