pub mod Fields
pub mod RouteJson
pub mod RuleJson
pub mod AnswerJson
pub mod Json
pub mod ExplanationJson
pub mod Appends
pub mod Steps
