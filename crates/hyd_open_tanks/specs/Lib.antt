pub mod StocksLeft
