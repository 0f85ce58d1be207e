-- The laws of planning that its own proofs and the crates above cite; `Theorems` and `ByEnergy` have what follows for callers.
pub mod EnergyRefusals
pub mod Theorems
pub mod ByEnergy
pub mod Dearer
