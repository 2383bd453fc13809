pub mod Ranges
pub mod Classification
pub mod People
pub mod Perturbations
