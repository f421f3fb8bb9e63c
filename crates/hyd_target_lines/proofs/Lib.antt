mod JoinedPieces
