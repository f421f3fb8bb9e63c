pub mod EnclosingAtScale
pub mod AtScaleOne
pub mod DemandsAtScale
pub mod MetAssignments
pub mod MetHistories
pub mod OneUnmetClause
pub mod OneReading
pub mod OneFaultyLine
