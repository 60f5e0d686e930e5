mod Tallies
mod Rolls
