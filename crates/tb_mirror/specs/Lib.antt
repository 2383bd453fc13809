pub mod MirrorAsks
pub mod MirrorReplies
pub mod BoardChains
pub mod Mirroring
pub mod Laws
