-- What contracts see of a `Net`.
use Rattle.std.specs.Prelude.{ℤ, List}
use Rattle.hyd_period_network.specs.declared.junctions_ends_and_settings.NetJunction.{NetJunction}
use Rattle.hyd_period_network.specs.declared.junctions_ends_and_settings.Ends.{Ends}
use Rattle.hyd_spec_certificates.specs.declared.LevelSpan.{LevelSpan}
use Rattle.hyd_period_network.specs.declared.junctions_ends_and_settings.Setting.{Setting}
use Rattle.hyd_law.specs.declared.link_law_kinds.LinkLaw.{LinkLaw}
use Rattle.hyd_law.specs.declared.demand_law_kinds.OutLaw.{OutLaw}

-- the junctions with the laws of their demands, the heads of reservoirs and of tanks, and the links: their ends, the
-- states that they are in, and their laws with and without regard to full and empty tanks, each in order of their
-- numbers
pub record NetView : Type 0 where
  pub junctions : List NetJunction
  pub demands : List OutLaw
  pub reservoirs : List ℤ
  pub tanks : List LevelSpan
  pub ends : List Ends
  pub settings : List Setting
  pub own : List LinkLaw
  pub laws : List LinkLaw
