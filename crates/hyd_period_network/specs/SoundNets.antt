-- What is so of every net, and which problems it has.
use Rattle.std.specs.Prelude.{◌≡◌, ℕ, ◌<◌, ◌≤◌, ◌*◌, ◌^◌, ℤ, List, length, slice_index_or, unsigned_abs, All, Bool}
use Rattle.std.specs.Prelude.{true, false, ⊤}
use Rattle.std.specs.Option.{IfSome}
use Rattle.hyd_net.specs.CountLimits.{most_links}
use Rattle.hyd_net.specs.NumberRanges.{IsHead}
use Rattle.hyd_spec_certificates.specs.Certificate.{box_limit}
use Rattle.hyd_spec_certificates.specs.declared.Problem.{Problem}
use Rattle.hyd_spec_certificates.specs.declared.Problem.TheVariants.{Main, Pinned}
use Rattle.hyd_spec_certificates.specs.declared.Side.{Side}
use Rattle.hyd_spec_certificates.specs.declared.Side.TheVariants.{Upper, Lower}
use Rattle.hyd_theorems_on_definitions.specs.SoundLawsAndGrids.{IsSoundCapacity}
use Rattle.hyd_law.specs.DemandLaws.{IsSoundOut, OutAccepts}
use Rattle.hyd_law.specs.declared.link_law_kinds.LinkLaw.{LinkLaw}
use Rattle.hyd_law.specs.declared.demand_law_kinds.OutLaw.{OutLaw}
use Rattle.hyd_period_network.specs.declared.junctions_ends_and_settings.NetJunction.{NetJunction}
use Rattle.hyd_spec_certificates.specs.declared.LevelSpan.{LevelSpan}
use Rattle.hyd_period_network.specs.declared.junctions_ends_and_settings.Setting.{Setting}
use Rattle.hyd_period_network.specs.NetView.{NetView}
use Rattle.hyd_period_network.specs.ExactLaw.{exact_law}
use Rattle.hyd_period_network.specs.LawsInSettings.{Stands, restricted}
use Rattle.hyd_period_network.specs.LinkEnds.{HasEnds}
use Rattle.hyd_period_network.specs.NetAsPeriodNetwork.{node_count, capacity_of}

-- the elevation is in the file's range, and the capacity of an emitter is sound
pub record IsSoundJunction (junction : NetJunction) : Type 0 where
  pub elevation : IsHead junction.elevation
  pub emitter : IfSome junction.emitter (λ law. IsSoundCapacity (capacity_of law))

-- a demand is sound, and it is computed at each difference of two heads of the box as pressure
pub record IsSoundDemand (law : OutLaw) : Type 0 where
  pub sound : IsSoundOut law
  pub accepts : (p : ℤ) → unsigned_abs p ≤ 2 * box_limit → OutAccepts law p

-- both ends of a tank's heads are in the file's range
pub record AreHeads (span : LevelSpan) : Type 0 where
  pub lo : IsHead span.lo
  pub hi : IsHead span.hi

-- the own law of a link stands for its exact one, and its law for that of its setting
pub record HasLaws (setting : Setting) (own law : LinkLaw) : Type 0 where
  pub own_is : Stands own (exact_law own)
  pub law_is : Stands law (restricted setting.no_forward setting.no_reverse (exact_law own))

-- so it is for each link
abbrev pub HaveLaws : List Setting → List LinkLaw → List LinkLaw → Type 0
HaveLaws settings own laws = (k : ℕ) (setting : Setting) (o l : LinkLaw) → k < length settings
    → HasLaws (slice_index_or settings k setting) (slice_index_or own k o) (slice_index_or laws k l)

-- a net has a demand for each junction, a setting and two laws for each link, its links go from node to node, all heads
-- are in the file's range, and each law is sound and stands for the one of its grid
pub record IsSoundNet (net : NetView) : Type 0 where
  pub each_demand : length net.demands ≡ length net.junctions
  pub each_setting : length net.settings ≡ length net.ends
  pub each_own : length net.own ≡ length net.ends
  pub each_law : length net.laws ≡ length net.ends
  pub few_nodes : node_count net ≤ 2 ^ 31
  pub few_links : length net.ends ≤ most_links
  pub ends : All (HasEnds (node_count net)) net.ends
  pub junctions : All IsSoundJunction net.junctions
  pub demands : All IsSoundDemand net.demands
  pub reservoirs : All IsHead net.reservoirs
  pub tanks : All AreHeads net.tanks
  pub laws : HaveLaws net.settings net.own net.laws

-- the side is the upper one
abbrev pub is_upper : Side → Bool
is_upper Upper = true
is_upper Lower = false

-- the tank that a problem pins is one of the net's
abbrev pub HasProblem : NetView → Problem → Type 0
HasProblem net Main = ⊤
HasProblem net (Pinned tank) = tank < length net.tanks
