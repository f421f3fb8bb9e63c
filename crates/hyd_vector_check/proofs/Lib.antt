pub mod HeadsWithOneReplaced
pub mod FlowsOfLinkEnds
pub mod OutflowsBySide
pub mod NetOutflowAboveMargin
pub mod CertificateComparisons
