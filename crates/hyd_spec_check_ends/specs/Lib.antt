pub mod LinesOfRefusals
