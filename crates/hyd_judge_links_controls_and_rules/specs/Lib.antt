pub mod LinkFaults
pub mod LinksSoFar
pub mod AskedStatesOfLinks
pub mod NamesOfLinksAndNodes
pub mod Controls
pub mod Rules
