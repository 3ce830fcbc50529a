mod Asks
mod AsksPhases
mod AsksDocuments
mod Levels
mod Nests
mod Changes
mod Nodes
mod Texts
