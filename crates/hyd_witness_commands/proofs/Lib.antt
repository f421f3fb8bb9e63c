mod JoinedPieces
mod StatusesOfMeet
mod LinesPutInPieces
