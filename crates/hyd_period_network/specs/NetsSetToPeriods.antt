-- What a net is that was opened for a network, what is asked of a period, what a net is that was set to one, and when
-- two of them answer alike.
use Rattle.std.specs.Prelude.{◌≡◌, ◌<◌, ℕ, ℤ, pos, ◌+ℤ◌, ◌≤ℤ◌, true, List, [], ◌∷◌, length, map, All}
use Rattle.std.specs.Prelude.{Some, slice_get, slice_index_or}
use Rattle.std.specs.List.{AllZip}
use Rattle.hyd_spec.specs.ProgramTypes.{Project, Link, Tank, LinkState}
use Rattle.hyd_spec.specs.DemandsHeadsAndPumpLifts.{is_us}
use Rattle.hyd_spec.specs.Law.{Law, Shut}
use Rattle.hyd_spec.specs.LinkLaw.{own_law, forbids_forward, forbids_reverse}
use Rattle.hyd_spec.specs.declared.TankState.{TankState}
use Rattle.hyd_spec_certificates.specs.SpansAsIntervals.{levels_of}
use Rattle.hyd_spec_certificates.specs.PeriodNetwork.{IsGrid}
use Rattle.hyd_spec_certificates.specs.NetOutflow.{margin}
use Rattle.hyd_law.specs.LinkLaws.{link_low, link_high}
use Rattle.hyd_law.specs.DemandLaws.{out_low, out_high}
use Rattle.hyd_law.specs.declared.link_law_kinds.LinkLaw.{LinkLaw}
use Rattle.hyd_law.specs.declared.demand_law_kinds.OutLaw.{OutLaw}
use Rattle.hyd_law.specs.declared.demand_law_kinds.OutLaw.TheVariants.{Fixed}
use Rattle.hyd_period_network.specs.declared.junctions_ends_and_settings.Ends.{Ends}
use Rattle.hyd_spec_certificates.specs.declared.LevelSpan.{LevelSpan}
use Rattle.hyd_period_network.specs.NetView.{NetView}
use Rattle.hyd_period_network.specs.ExactLaw.{exact_law}
use Rattle.hyd_period_network.specs.LawsInSettings.{AreLaws, closed_setting}
use Rattle.hyd_period_network.specs.Demands.{IsNetJunction, AreHeld}
use Rattle.hyd_period_network.specs.SoundNets.{AreHeads}
use Rattle.hyd_period_network.specs.NetAsPeriodNetwork.{grid_of, states_of, own_laws}
use Rattle.hyd_period_network.specs.LinkEnds.{ties_from}

-- the two nodes of a link
abbrev pub ends_of : Link → Ends
ends_of link = record { from = link.from; to = link.to }

-- what a net of a network is in each of its periods: its junctions and its links are the network's, it has a head for
-- each reservoir and each tank, each demand that it holds has its law, and the two laws of each link are those of its
-- setting
pub record IsNetOf (project : Project) (net : NetView) : Type 0 where
  pub ends : net.ends ≡ map ends_of project.links.list
  pub junctions : AllZip IsNetJunction project.junctions.list net.junctions
  pub each_demand : length net.demands ≡ length project.junctions.list
  pub each_reservoir : length net.reservoirs ≡ length project.reservoirs.list
  pub each_tank : length net.tanks ≡ length project.tanks.list
  pub each_setting : length net.settings ≡ length project.links.list
  pub each_own : length net.own ≡ length project.links.list
  pub each_law : length net.laws ≡ length project.links.list
  pub demands : AreHeld project net.demands
  pub laws : AreLaws project project.links.list net.settings net.own net.laws

-- each link is shut, and each head and each demand is 0
pub record IsFresh (net : NetView) : Type 0 where
  pub links : All (λ s. s ≡ closed_setting) net.settings
  pub demands : All (λ (d : OutLaw). d ≡ Fixed (record { demand = pos 0 })) net.demands
  pub reservoirs : All (λ (h : ℤ). h ≡ pos 0) net.reservoirs
  pub tanks : All (λ (s : LevelSpan). s ≡ record { lo = pos 0; hi = pos 0 }) net.tanks

-- levels of a tank from one to another
pub record IsSpanOf (tank : Tank) (span : LevelSpan) : Type 0 where
  pub from_minimum : tank.minimum ≤ℤ span.lo
  pub ordered : span.lo ≤ℤ span.hi
  pub to_maximum : span.hi ≤ℤ tank.maximum

-- a tank's heads at levels: its bottom plus them
pub record HasHeads (tank : Tank) (levels heads : LevelSpan) : Type 0 where
  pub lo : heads.lo ≡ (levels.lo +ℤ tank.bottom)
  pub hi : heads.hi ≡ (levels.hi +ℤ tank.bottom)
  pub range : AreHeads heads

-- each tank has its levels
pub record AreLevels (project : Project) (levels : List LevelSpan) : Type 0 where
  pub each : length levels ≡ length project.tanks.list
  pub spans : (k : ℕ) (tank : Tank) (span : LevelSpan) → k < length levels
      → IsSpanOf (slice_index_or project.tanks.list k tank) (slice_index_or levels k span)

-- the laws of links in their states, whatever the tanks at their ends allow
abbrev pub own_laws_of : Project → List Link → List LinkState → List Law
own_laws_of project [] states = []
own_laws_of project (link ∷ links) [] = []
own_laws_of project (link ∷ links) (state ∷ states) =
    own_law (is_us project) project.bends.list link.kind state ∷ own_laws_of project links states

-- a link of which full and empty tanks forbid both ways is shut
abbrev pub AreShut : Project → List TankState → List LinkLaw → Type 0
AreShut project tanks laws = (k : ℕ) (link : Link) (law : LinkLaw) → k < length project.links.list
    → forbids_forward project tanks (slice_index_or project.links.list k link) ≡ true
    → forbids_reverse project tanks (slice_index_or project.links.list k link) ≡ true
    → exact_law (slice_index_or laws k law) ≡ Shut

-- ---- two nets of one period

-- a net of a network was set to a period
pub record IsSetTo (project : Project) (time : ℕ) (levels : List LevelSpan) (tanks : List TankState)
    (links : List LinkState)
    (net : NetView) : Type 0 where
  pub of : IsNetOf project net
  pub grid : IsGrid project time (map levels_of levels) tanks links (grid_of net)
  pub states : states_of net ≡ links

-- two laws of links have the same flows at each head difference
pub record PassAlike (a b : LinkLaw) : Type 0 where
  pub low : (d : ℤ) → link_low a d ≡ link_low b d
  pub high : (d : ℤ) → link_high a d ≡ link_high b d

-- two laws of demands have the same flows at each pressure
pub record GiveAlike (a b : OutLaw) : Type 0 where
  pub low : (p : ℤ) → out_low a p ≡ out_low b p
  pub high : (p : ℤ) → out_high a p ≡ out_high b p

-- two nets answer alike: their grids, the states and the laws of their links, the laws of their demands, their margins
-- and the link ends at each node are the same
pub record AnswerAlike (a b : NetView) : Type 0 where
  pub grid : grid_of a ≡ grid_of b
  pub states : states_of a ≡ states_of b
  pub own_laws : own_laws a ≡ own_laws b
  pub own : (link : ℕ) (x y : LinkLaw) → slice_get a.own link ≡ Some x → slice_get b.own link ≡ Some y → PassAlike x y
  pub laws : (link : ℕ) (x y : LinkLaw) → slice_get a.laws link ≡ Some x → slice_get b.laws link ≡ Some y
      → PassAlike x y
  pub demands : (junction : ℕ) (x y : OutLaw) → slice_get a.demands junction ≡ Some x
      → slice_get b.demands junction ≡ Some y
      → GiveAlike x y
  pub margins : (junction : ℕ) → margin (grid_of a) junction ≡ margin (grid_of b) junction
  pub rows : (node : ℕ) → ties_from node 0 a.ends ≡ ties_from node 0 b.ends
