pub mod Packing
pub mod Cubes
pub mod Axes
pub mod Walks
pub mod Narrowing
pub mod Forms
