pub mod FaultyLineWithFlows
