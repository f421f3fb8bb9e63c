pub mod OneJunctionMore
