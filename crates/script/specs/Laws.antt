pub mod FewPairs
