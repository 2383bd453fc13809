mod Applying
mod Answering
mod Mirrored
mod Led
