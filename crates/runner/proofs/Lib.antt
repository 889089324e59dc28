pub mod Chains
pub mod Counted
pub mod Placed
pub mod Gathered
pub mod Ends
