pub mod Defaults
pub mod PolicyTrees
pub mod RowTrees
pub mod StepTrees
pub mod ScenarioTree
