pub mod SmallNetwork
