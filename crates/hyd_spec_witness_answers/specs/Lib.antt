pub mod PromisesOfWitnesses
