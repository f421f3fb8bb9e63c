-- What crates above name of the crates below.
pub use Rattle.hyd_bounds.specs.VectorsInOrder.{AreInOrder, IsSpan, IsVector}
pub use Rattle.hyd_controls_and_rules.specs.PumpPatternsAndSimpleControls.{IsFirstOpen}
pub use Rattle.hyd_controls_and_rules.specs.RuleReadings.{IsBounded}
pub use Rattle.hyd_controls_and_rules.specs.declared.pump_patterns_and_simple_controls.LevelOpen.{LevelOpen}
