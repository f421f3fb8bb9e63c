pub mod EndedOverSpreads
