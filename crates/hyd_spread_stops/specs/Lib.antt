pub mod StuckOverSpreads
