pub mod Slots
pub mod Entries
pub mod ValuesAgain
pub mod DecimalsAgain
pub mod PrintedSpecs
pub mod SpecsAgain
pub mod MetadataAgain
pub mod ObjectsAgain
mod LongDurations
mod Only
mod OnlySpecs
mod OnlyObjects
mod OwnersHaveUids
