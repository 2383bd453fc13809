pub mod Numbers
pub mod ServicePorts
pub mod Populations
pub mod Names
pub mod Forms
pub mod Positions
pub mod Commands
