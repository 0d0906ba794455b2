mod Depths
mod Compared
pub mod Bodies
mod Cuts
mod Texts
mod Summaries
mod ScenarioLine
pub mod OneHistory
