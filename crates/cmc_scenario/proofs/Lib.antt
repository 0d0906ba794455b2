pub mod OneMore
pub mod ReadForms
pub mod StepForms
pub mod SetupForms
pub mod LoadLaws
