pub mod Pieces
pub mod Spots
pub mod Making
pub mod UnderWay
