pub mod Statuses
pub mod WrittenPasses
pub mod WitnessAnswers
pub mod CommandWitness
