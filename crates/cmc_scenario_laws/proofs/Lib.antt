mod Names
mod Members
mod RowsAgain
mod OneMoreOf
mod RowLaws
mod KeysAgain
mod KeyLaws
mod MaterialAgain
mod RowOrder
mod MaterialLaws
mod Addresses
mod PoliciesAgain
mod ApproversAgain
pub mod AppliedAgain
pub mod StepsAgain
pub mod ScriptsAgain
mod RolesAgain
pub mod ScenariosAgain
mod Floats
mod ObjectFloats
mod ScenarioFloats
pub mod ScenarioLaws
pub mod BoundRows
