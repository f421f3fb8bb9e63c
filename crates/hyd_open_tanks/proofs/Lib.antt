mod KeptSoFar
mod StocksLeftByFacts
