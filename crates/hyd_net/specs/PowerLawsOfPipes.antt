-- What definitions above name of pipes with Hazen-Williams losses.
pub use Rattle.hyd_spec_power_laws.specs.declared.power_capacities.HazenWilliamsPipe.{HazenWilliamsPipe}
pub use Rattle.hyd_spec_power_laws.specs.declared.power_capacities.PowerCapacity.{PowerCapacity}
pub use Rattle.hyd_spec_power_laws.specs.HazenWilliamsLosses.{HazenWilliamsAtMost, HazenWilliamsAtLeast}
pub use Rattle.hyd_spec_power_laws.specs.EnclosingFlows.{power_low, power_high}
