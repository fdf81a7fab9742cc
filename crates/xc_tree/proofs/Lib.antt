pub mod Forms
pub mod Heights
pub mod Leasts
pub mod Written
pub mod TypeExamples
pub mod TypeRuleExamples
pub mod ShapeRuleExamples
