pub mod StandingsAtStarts
