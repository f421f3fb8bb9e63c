pub mod MetMoments
mod LinesOfWitness
mod Findings
