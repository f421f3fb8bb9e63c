pub mod FlowParts
pub mod FlowTexts
