mod Cuts
mod CharacterCuts
mod Substrings
mod SpaceRuns
