mod StatusesOfWitness
mod PassLemmas
mod PassesInTurn
mod AnswersOfSearch
mod CommandLemmas
