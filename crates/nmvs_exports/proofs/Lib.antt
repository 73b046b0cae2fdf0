mod ShardExports
mod Slicing
