pub mod ConditionForm
pub mod StatusForm
pub mod WholeForm
pub mod Laws
