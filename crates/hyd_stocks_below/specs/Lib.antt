pub mod KeptStocks
