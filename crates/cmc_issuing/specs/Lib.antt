pub mod Choices
pub mod PlanCalls
