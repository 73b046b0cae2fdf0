mod Lengths
mod Marking
