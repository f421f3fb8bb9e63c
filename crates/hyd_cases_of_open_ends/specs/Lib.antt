pub mod FillingTank
pub mod CurvedTank
pub mod VillageOpenly
