pub mod Digests
pub mod Contents
pub mod Chains
