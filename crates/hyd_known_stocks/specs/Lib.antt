pub mod KnownStocks
