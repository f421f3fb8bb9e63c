pub mod AlikeButTankHeads
pub mod RuleReadings
pub mod ActionsByPriority
pub mod KnownOfRules
pub mod ReservedMemory
pub mod PumpPatternsAndSimpleControls
pub mod TruthOfRule
pub mod PassedOn
