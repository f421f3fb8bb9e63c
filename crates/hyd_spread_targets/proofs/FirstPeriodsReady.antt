-- What is kept for the first period for a spread: it is that of the start, and it stays so; and the nets that were set
-- to the states of links are the pair of the period.
use Rattle.std.proofs.Common.{◌≡◌, ◌∙◌, ℕ, false, List, length, map, refl, ap, subst, sym}
use Rattle.std.specs.Prelude.{slice_set, Result, Ok, Err, OnOk, IfErr, is_err}
use Rattle.std.proofs.lemmas.Bool.{true≢false}
use Rattle.hyd_net.specs.Sound.{IsSound}
use Rattle.hyd_spec.specs.ProgramTypes.{Project, LinkState, Closed}
use Rattle.hyd_spec.specs.PumpPatternsAndSimpleControls.{started}
use Rattle.hyd_spec.specs.History.{initial_links}
use Rattle.hyd_spec_certificates.specs.declared.Side.{Side}
use Rattle.hyd_spec_certificates.specs.declared.Side.TheVariants.{Upper, Lower}
use Rattle.hyd_spec_certificates.specs.SpansAsIntervals.{levels_of}
use Rattle.hyd_spec_certificates.specs.Decided.{links_at, acts_on}
use Rattle.hyd_spec_certificates.specs.Valid.{ControlsAreDecided}
use Rattle.hyd_spec_open_ends.specs.OpenStandings.{OpenStanding}
use Rattle.hyd_spec_spread.specs.Spreads.{Spread}
use Rattle.hyd_spec_spread.specs.OutermostGrids.{IsOutermostGrid}
use Rattle.hyd_spec_spread_runs.specs.OutermostPairs.{grid_on}
use Rattle.hyd_spec_spread_runs.specs.RunsForSpreads.{standing_within, StartIsDecided, AreDemandsInRange}
use Rattle.hyd_spec_spread_stops.specs.StopsOfSpreads.{IsFirstDemandOver}
use Rattle.hyd_spec_spread_targets.specs.FirstPeriodWithin.{IsFirstPair, IsFirstPairWithShut}
use Rattle.hyd_period_network.specs.NetAsPeriodNetwork.{grid_of}
use Rattle.hyd_period_network.specs.LawsInSettings.{AreStates}
use Rattle.hyd_period_network.specs.NetsSetToPeriods.{AreLevels}
use Rattle.hyd_period_network.proofs.NetOfSoundProject.{long_zipped}
use Rattle.hyd_period_facts.specs.declared.tanks_at_start.TankStart.{TankStart}
use Rattle.hyd_first_period.proofs.LinksStarted.{started-at, states-started, states-started-shut, long-started}
use Rattle.hyd_open_sim_start.specs.StandingsOfOpenRuns.{known_for}
use Rattle.hyd_sim.proofs.LevelsInOrderAtStart.{levels-there}
use Rattle.hyd_spread_rows.specs.SpreadsRead.{spread_of}
use Rattle.hyd_spread_networks.specs.NetsOfSpreads.{SpreadNetsView, AreNetsOf, net_on, pair_of}
use Rattle.hyd_spread_networks.specs.declared.fault.DemandOver.{DemandOver}
use Rattle.hyd_spread_networks.proofs.NetsOfBothSides.{both, pair_at}
use Rattle.hyd_spread_start.specs.StartsOfRuns.{BeginsRun}
use Rattle.hyd_spread_start.specs.declared.start_of_text.SpreadStart.{SpreadStart}
use Rattle.hyd_spread_start.proofs.DemandsOver.{no-demand-over}
use Rattle.hyd_spread_targets.specs.FirstPeriodsOver.{IsReadyOver}
use Rattle.hyd_spread_targets.specs.declared.first_period_over.FirstPeriodOver.{FirstPeriodOver}

-- ---- the start

module _ (project : Project) (start : SpreadStart) (begins : BeginsRun project start) where
  -- the levels of the start are those that the spread allows
  pub levels-at-start : map levels_of start.standing.stocks.levels.list
      ≡ (standing_within project (spread_of start.rows)).levels
  levels-at-start = ap (λ (s : OpenStanding). s.known.levels) begins.initial

  pub tanks-at-start : start.standing.stocks.tanks.list ≡ (standing_within project (spread_of start.rows)).tanks
  tanks-at-start = ap (λ (s : OpenStanding). s.known.tanks) begins.initial

  -- they lie in their tanks
  pub levels-lie : AreLevels project start.standing.stocks.levels.list
  levels-lie = levels-there project (known_for start.standing) start.standing.stocks.levels.list refl
      begins.standing.firm.kept begins.standing.firm.tidy

  -- and they decide each control
  pub controls-decided : ControlsAreDecided project (map levels_of start.standing.stocks.levels.list)
  controls-decided = subst (ControlsAreDecided project) (sym levels-at-start) begins.decided.controls

  -- what is kept of it is ready
  pub ready-at-start : (first : FirstPeriodOver) → AreNetsOf project first.nets
      → first.nets.spread ≡ spread_of start.rows → first.stocks ≡ start.standing.stocks
      → first.started.items
      ≡ started project 0 (acts_on (map levels_of start.standing.stocks.levels.list)) (initial_links project)
      → length first.links.items ≡ length project.links.list → IsReadyOver project first
  ready-at-start first of spread stocks states each = record {
    of = of;
    decided = subst (StartIsDecided project) (sym spread) begins.decided;
    levels = ap (λ (s : TankStart). map levels_of s.levels.list) stocks ∙ (levels-at-start
        ∙ ap (λ (s : Spread). (standing_within project s).levels) (sym spread));
    levels_lie = subst (λ (s : TankStart). AreLevels project s.levels.list) (sym stocks) levels-lie;
    tanks = ap (λ (s : TankStart). s.tanks.list) stocks ∙ tanks-at-start;
    tanks_each = ap (λ (s : TankStart). length s.tanks.list) stocks ∙ begins.standing.firm.tidy.tanks_each;
    started = started-at project (standing_within project (spread_of start.rows)) refl refl
        start.standing.stocks.levels.list levels-at-start first.started.items states
        ∙ ap (λ (s : Spread). links_at project (standing_within project s)) (sym spread);
    each = each;
  }

-- what is kept stays ready where the nets are those of the network for the same spread, and the stocks and the states
-- at the start stay
pub still-ready : (project : Project) (old new : FirstPeriodOver) → IsReadyOver project old
    → AreNetsOf project new.nets → new.nets.spread ≡ old.nets.spread → new.stocks ≡ old.stocks
    → new.started ≡ old.started → length new.links.items ≡ length project.links.list → IsReadyOver project new
still-ready project old new ready of spread stocks states each = record {
  of = of;
  decided = subst (StartIsDecided project) (sym spread) ready.decided;
  levels = ap (λ (s : TankStart). map levels_of s.levels.list) stocks ∙ (ready.levels
      ∙ ap (λ (s : Spread). (standing_within project s).levels) (sym spread));
  levels_lie = subst (λ (s : TankStart). AreLevels project s.levels.list) (sym stocks) ready.levels_lie;
  tanks = ap (λ (s : TankStart). s.tanks.list) stocks ∙ ready.tanks;
  tanks_each = ap (λ (s : TankStart). length s.tanks.list) stocks ∙ ready.tanks_each;
  started = ap (λ v. v.items) states ∙ (ready.started
      ∙ ap (λ (s : Spread). links_at project (standing_within project s)) (sym spread));
  each = each;
}

-- nets that are the same are those of the network
pub same-nets : (project : Project) (old new : SpreadNetsView) → AreNetsOf project old → new ≡ old
    → AreNetsOf project new
same-nets project old new of same = subst (AreNetsOf project) (sym same) of

-- a net has the junctions of its network
pub net-long : (project : Project) (nets : SpreadNetsView) → AreNetsOf project nets → (side : Side)
    → length (net_on side nets).junctions ≡ length project.junctions.list
net-long project nets of side = sym (long_zipped _ _ _ (of.each side).junctions)

-- ---- states of links

module _ (project : Project) (sound : IsSound project) (spread : Spread) where
  -- links can have the states of the first period
  pub states-within : (states : List LinkState) → states ≡ links_at project (standing_within project spread)
      → AreStates project states
  states-within = states-started project sound (standing_within project spread).levels

  -- also with one closed
  pub states-within-shut : (states : List LinkState) (k : ℕ)
      → states ≡ slice_set (links_at project (standing_within project spread)) k Closed → AreStates project states
  states-within-shut = states-started-shut project sound (standing_within project spread).levels

  -- and there are as many states as links
  pub long-within : length (links_at project (standing_within project spread)) ≡ length project.links.list
  long-within = long-started project sound (standing_within project spread).levels

-- ---- pairs

-- the grids of nets at the levels and the states of tanks of the start
abbrev pub AreSetTo : Project → Spread → List LinkState → SpreadNetsView → Type 0
AreSetTo project spread links nets =
    (side : Side) → IsOutermostGrid project spread side 0 (standing_within project spread).levels
    (standing_within project spread).tanks links (grid_of (net_on side nets))

-- they are the pair of the first period
pub first-pair : (project : Project) (spread : Spread) (links : List LinkState) (nets : SpreadNetsView)
    → links ≡ links_at project (standing_within project spread) → AreSetTo project spread links nets
    → IsFirstPair project spread (pair_of nets)
first-pair project spread links nets same set =
    pair_at project spread nets 0 (standing_within project spread).levels (standing_within project spread).tanks links
    set (standing_within project spread)
    (record { time_is = refl; links_are = sym same; levels_are = refl; tanks_are = refl })

-- or that with one link closed
pub first-pair-with-shut : (project : Project) (spread : Spread) (pipe : ℕ) (links : List LinkState)
    (nets : SpreadNetsView) → links ≡ slice_set (links_at project (standing_within project spread)) pipe Closed
    → AreSetTo project spread links nets → IsFirstPairWithShut project spread pipe (pair_of nets)
first-pair-with-shut project spread pipe links nets same set =
    both (λ (side : Side). IsOutermostGrid project spread side 0 (standing_within project spread).levels
    (standing_within project spread).tanks (slice_set (links_at project (standing_within project spread)) pipe Closed)
    (grid_on side (pair_of nets)))
    (subst (λ (ls : List LinkState). IsOutermostGrid project spread Upper 0 (standing_within project spread).levels
    (standing_within project spread).tanks ls (grid_of nets.upper)) same (set Upper))
    (subst (λ (ls : List LinkState). IsOutermostGrid project spread Lower 0 (standing_within project spread).levels
    (standing_within project spread).tanks ls (grid_of nets.lower)) same (set Lower))

-- ---- results

-- where both ends of all demands are in range, none is the first that isn't
pub none-refused : {T : Type 0} (project : Project) (spread : Spread) (result : Result T DemandOver)
    → AreDemandsInRange project spread 0
    → IfErr result (λ fault. IsFirstDemandOver project spread 0 fault.junction fault.value) → is_err result ≡ false
none-refused project spread (Ok value) in_range first = refl
none-refused project spread (Err fault) in_range first =
    absurd (no-demand-over project spread 0 fault.junction fault.value in_range first)

-- what holds of an answer that is no fault
pub holds-then : {A E : Type 0} (P : Type 0) (result : Result A E) → is_err result ≡ false → OnOk result P → P
holds-then P (Ok value) none p = p
holds-then P (Err fault) none p = absurd (true≢false none)
