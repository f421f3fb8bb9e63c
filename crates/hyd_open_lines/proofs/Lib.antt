mod JoinedPieces
mod ClockWords
