pub mod DeskInMemoryLemmas
pub mod MovedBytesLemmas
pub mod LeftAsItWasLemmas
pub mod PutLemmas
