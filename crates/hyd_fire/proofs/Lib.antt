mod TurnsShowStarts
mod SearchesGive
mod DrawsOfHeldJunctions
pub mod WordsBySides
