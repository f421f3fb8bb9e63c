pub mod PairsOfNets
