mod Settling
mod Readied
pub mod Failing
pub mod Going
pub mod Issued
pub mod CalmScripts
pub mod CalmViews
pub mod CalmReplies
mod CalmNames
mod CalmTargets
pub mod RunningAlone
mod OwnNames
pub mod OwnRequests
mod Unmoved
mod Refusals
pub mod SinceBegin
mod NotForNothing
mod IdleCalls
mod NewConditions
pub mod TablesChange
pub mod InOrder
mod ValuesChange
mod StandInsChange
pub mod NeverIdle
mod ReasonsEnough
pub mod Counting
mod FewPasses
mod PassEntries
mod Tellings
pub mod ShortRuns
