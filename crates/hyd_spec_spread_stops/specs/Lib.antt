pub mod StopsOfSpreads
