-- A period within a spread that begins where a standing says so is bounded by each record that is valid there.
use Rattle.std.proofs.Common.{◌≡◌, ℕ, zero, suc, ◌<◌, ℤ, pos, refl, sym, ap, subst}
use Rattle.std.proofs.Common.{◌∙◌, arith, List, [], ◌∷◌, length}
use Rattle.std.specs.Prelude.{Some, slice_get}
use Rattle.std.specs.List.{AllZip}
use Rattle.std.specs.Option.{option_map_or}
use Rattle.std.proofs.lemmas.Option.{slice_get_within}
use Rattle.hyd_net.specs.Sound.{IsSound}
use Rattle.hyd_spec.specs.ProgramTypes.{Project, Junction, LinkState, Tank}
use Rattle.hyd_spec.specs.Lists.{map_from}
use Rattle.hyd_spec.specs.NodeNumbers.{tank_count}
use Rattle.hyd_spec.specs.Tank.{tank_inflow}
use Rattle.hyd_spec.specs.Assignment.{node_heads}
use Rattle.hyd_spec.specs.PeriodLength.{Period}
use Rattle.hyd_spec.specs.History.{Begins}
use Rattle.hyd_spec_certificates.specs.declared.Problem.TheVariants.{Main, Pinned}
use Rattle.hyd_spec_certificates.specs.declared.Side.{Side}
use Rattle.hyd_spec_certificates.specs.declared.Side.TheVariants.{Upper, Lower}
use Rattle.hyd_spec_certificates.specs.Interval.{Interval}
use Rattle.hyd_spec_certificates.specs.PeriodNetwork.{GridLink, grid_links, all_heads}
use Rattle.hyd_spec_certificates.specs.RecordAndStanding.{Record, Standing, vector_of}
use Rattle.hyd_spec_certificates.specs.Valid.{ControlsAreDecided}
use Rattle.hyd_spec_certificates.specs.Decided.{links_at, acts_on, heads_below, heads_above, inflow_of_tank}
use Rattle.hyd_spec_spread.specs.Spreads.{Spread}
use Rattle.hyd_spec_spread.specs.IntervalsOfData.{known_junction}
use Rattle.hyd_spec_spread.specs.NetworksWithin.{NodeData, with_data, IsJunctionWithin}
use Rattle.hyd_spec_spread.specs.OutermostGrids.{IsOutermostGrid}
use Rattle.hyd_spec_spread.specs.HistoriesWithin.{IsPeriodWithin}
use Rattle.hyd_spec_spread_runs.specs.OutermostPairs.{Pair, grid_on, spanned, spanning}
use Rattle.hyd_spec_spread_runs.specs.RunsForSpreads.{IsValidOver, ArePairAt, AreCertificatesOver}
use Rattle.hyd_theorems_on_definitions.specs.LyingInIntervals.{LiesIn, LevelsLie, LieBetween}
use Rattle.hyd_theorems_on_definitions.proofs.SoundTankLemmas.{vessels}
use Rattle.hyd_theorems_on_histories.specs.Agreement.{VolumesLie, AgreesWith, IsOwnState, IsKept}
use Rattle.hyd_theorems_on_histories.proofs.AgreementAtStart.{same_links}
use Rattle.hyd_theorems_on_histories.proofs.AgreementAfterPeriod.{made-states}
use Rattle.hyd_theorems_on_histories.proofs.CommandedLinkStates.{started_own}
use Rattle.hyd_theorems_on_histories.proofs.RuleReadingsBetweenEnds.{followed-lengths}
use Rattle.hyd_theorems_on_spread.specs.AssignmentsWithin.{IsAssignmentWithin}
use Rattle.hyd_theorems_on_spread.proofs.BoxesWithin.{heads-between, flow-within}
use Rattle.hyd_theorems_on_spread.proofs.LinksWithin.{count-within, links-alike}
use Rattle.hyd_theorems_on_spread_runs.specs.BoundedPeriods.{IsBounded}
use Rattle.hyd_theorems_on_spread_runs.proofs.InflowsWithin.{inflow_lies}
use Rattle.hyd_theorems_on_spread_runs.proofs.SpannedPairs.{AreBeside, beside, upper_heads, lower_heads, inflow_is}

-- ---- elevations

elevations-of : (project : Project) (spread : Spread) (nodes : NodeData) (time from : ℕ) (js ks : List Junction)
    → AllZip (IsJunctionWithin (with_data project nodes) time) (map_from (known_junction project spread time) from js)
    ks
    → (node : ℕ) → option_map_or (λ (j : Junction). j.elevation) (slice_get ks node) (pos 0)
    ≡ option_map_or (λ (j : Junction). j.elevation) (slice_get js node) (pos 0)
elevations-of project spread nodes time from [] [] all node = refl
elevations-of project spread nodes time from [] (k ∷ ks) all node = absurd all
elevations-of project spread nodes time from (j ∷ js) [] all node = absurd all
elevations-of project spread nodes time from (j ∷ js) (k ∷ ks) all zero = all.0.elevation
elevations-of project spread nodes time from (j ∷ js) (k ∷ ks) all (suc node) =
    elevations-of project spread nodes time (suc from) js ks all.1 node

-- ---- a period

-- The vectors of a record are certificates on the outermost grids of the period that begins at a standing, where level
-- controls are decided and each link was commanded to be in a state of its own.
pub record IsCertifiedAt (project : Project) (spread : Spread) (standing : Standing) (pair : Pair) (row : Record) :
    Type 0 where
  pub are_pair : ArePairAt project spread standing pair
  pub certificates : AreCertificatesOver project pair row
  pub controls : ControlsAreDecided project standing.levels
  pub states : AllZip (IsOwnState project) project.links.list standing.commanded

-- Those of a valid record are.
pub certified : (project : Project) (spread : Spread) (standing : Standing) (pair : Pair) (row : Record)
    (next : Standing) → IsKept project standing → IsValidOver project spread standing pair row next
    → IsCertifiedAt project spread standing pair row
certified project spread standing pair row next kept valid = record {
  are_pair = valid.are_pair;
  certificates = valid.certificates;
  controls = kept.controls;
  states = kept.states;
}

module _ (project : Project) (sound : IsSound project) (spread : Spread) (S : ℕ) (some : 0 < S) (pair : Pair)
    (standing : Standing) (row : Record) (valid : IsCertifiedAt project spread standing pair row)
    (time : ℕ) (levels volumes : List ℤ) (commanded : List LinkState)
    (agrees : AgreesWith project S standing time levels volumes commanded)
    (period : Period) (begins : Begins project S time levels volumes commanded period) (nodes : NodeData)
    (is : IsPeriodWithin project spread S period nodes) where
  abbrev network : Project
  network = with_data project nodes

  pub its_links : period.links ≡ links_at project standing
  its_links = begins.links ∙ same_links project S time standing levels volumes commanded some agrees valid.controls

  pub its_time : period.time ≡ standing.time
  its_time = begins.at_time ∙ agrees.time_is

  pub its_tanks : period.tanks ≡ standing.tanks
  its_tanks = begins.tanks ∙ agrees.tanks_are

  pub its_pair : (side : Side) → IsOutermostGrid project spread side period.time standing.levels period.tanks
      period.links (grid_on side pair)
  its_pair side =
      subst (λ ls. IsOutermostGrid project spread side period.time standing.levels period.tanks ls (grid_on side pair))
      (sym its_links)
      (subst (λ ts. IsOutermostGrid project spread side period.time standing.levels ts (links_at project standing)
      (grid_on side pair)) (sym its_tanks)
      (subst (λ t. IsOutermostGrid project spread side t standing.levels standing.tanks (links_at project standing)
      (grid_on side pair)) (sym its_time) (valid.are_pair side)))

  its-own : AllZip (IsOwnState project) project.links.list (links_at project standing)
  its-own = started_own project sound standing.time (acts_on standing.levels) standing.commanded valid.states

  pub its_assignment : IsAssignmentWithin project spread S period.time standing.levels period.levels period.tanks
      period.links nodes period.assignment
  its_assignment = record {
    made = record {
      emitters = sound.made.emitters;
      kinds = sound.made.links;
      sizes = sound.quantities.links;
      states = made-states project project.links.list period.links
          (subst (AllZip (IsOwnState project) project.links.list) (sym its_links) its-own);
    };
    lie = subst (LevelsLie S standing.levels) (sym begins.at_levels) agrees.levels_lie;
    within = is.within;
    assigned = is.is_period.obeys;
  }

  are-beside : AreBeside pair
  are-beside = beside project spread period.time standing.levels period.tanks period.links pair its_pair

  heads-bounded : LieBetween S (heads_below (spanned pair) (spanning pair row))
      (heads_above (spanned pair) (spanning pair row))
      (node_heads network S period.time period.levels period.assignment.heads)
  heads-bounded =
      subst (λ (below : List ℤ). LieBetween S below (heads_above (spanned pair) (spanning pair row))
      (node_heads network S period.time period.levels period.assignment.heads))
      (sym (lower_heads pair are-beside Main row.main.lower))
      (subst (λ (above : List ℤ). LieBetween S (all_heads pair.lower Main Lower row.main.lower) above
      (node_heads network S period.time period.levels period.assignment.heads))
      (sym (upper_heads pair are-beside Main row.main.upper))
      (heads-between project spread S period.time standing.levels period.levels period.tanks period.links nodes
      period.assignment its_assignment row.main.lower row.main.upper
      (record {
        grid = pair.lower;
        is_outermost = its_pair Lower;
        is_certificate = valid.certificates.each Main Lower tt;
      })
      (record {
        grid = pair.upper;
        is_outermost = its_pair Upper;
        is_certificate = valid.certificates.each Main Upper tt;
      })))

  its-grid-links : pair.upper.links ≡ grid_links project period.tanks project.links.list period.links
  its-grid-links = (its_pair Upper).links_are

  flow-each : length pair.upper.links ≡ length period.assignment.flows
  flow-each =
      ap length (its-grid-links ∙ sym (links-alike project nodes period.tanks project.links.list period.links
      (count-within project spread period.time nodes is.within)))
      ∙ followed-lengths network period.tanks S _ project.links.list period.links period.assignment.flows
      is.is_period.obeys.links_follow

  -- ---- inflows

  inflow-bounded : (k : ℕ) (tank : Tank) → slice_get project.tanks.list k ≡ Some tank
      → LiesIn S (inflow_of_tank project (spanned pair) (spanning pair row) k)
      (tank_inflow project k period.assignment.flows)
  inflow-bounded k tank at =
      let inside : k < tank_count project = slice_get_within project.tanks.list k tank at in
      let there : k < length row.pinned = (let e = valid.certificates.pinned_each in omega (arith, e, inside)) in
      let lies = inflow_lies project spread S period.time standing.levels period.levels period.tanks period.links nodes
      period.assignment its_assignment pair.lower pair.upper (its_pair Lower) (its_pair Upper) k
      (vector_of row (Pinned k) Lower) (vector_of row (Pinned k) Upper)
      (valid.certificates.each (Pinned k) Lower inside) (valid.certificates.each (Pinned k) Upper inside) in
      subst (λ (x : Interval). LiesIn S x (tank_inflow project k period.assignment.flows))
      (sym (inflow_is project pair are-beside row k there)) lies

  -- ---- the period

  pub is_bounded : IsBounded project nodes S period (spanned pair) standing (spanning pair row)
  is_bounded = record {
    some = some;
    numbers = count-within project spread period.time nodes is.within;
    elevations = elevations-of project spread nodes period.time 0 project.junctions.list nodes.junctions.list
        is.within.junctions;
    heads = heads-bounded;
    flow_each = flow-each;
    flows = λ l link at. flow-within project spread S period.time standing.levels period.levels period.tanks
        period.links nodes period.assignment its_assignment (heads_below (spanned pair) (spanning pair row))
        (heads_above (spanned pair) (spanning pair row)) heads-bounded l link
        (subst (λ (ls : List GridLink). slice_get ls l ≡ Some link) its-grid-links at);
    inflows = inflow-bounded;
    levels = its_assignment.lie;
    volumes = subst (VolumesLie S standing.volumes) (sym begins.at_volumes) agrees.volumes_lie;
    time = its_time;
    tanks = its_tanks;
    tank_each = is.is_period.obeys.tank_each;
    links = its_links;
    controls = valid.controls;
    vessels = vessels project sound;
  }
