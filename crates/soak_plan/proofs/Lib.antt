mod Bounds
mod Planning
