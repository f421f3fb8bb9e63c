pub mod GivenRecords
pub mod NearVectors
pub mod RefusedVectors
