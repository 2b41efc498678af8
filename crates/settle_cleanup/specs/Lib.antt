pub mod Cleanup
pub mod Convergence
