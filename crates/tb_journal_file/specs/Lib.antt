pub mod Files
pub mod Recovery
