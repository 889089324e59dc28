pub mod TreeKept
