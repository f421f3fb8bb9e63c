pub mod ProposedVectors
