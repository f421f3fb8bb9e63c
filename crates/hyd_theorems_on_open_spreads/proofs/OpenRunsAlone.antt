-- Without a spread the records that are valid for it where ends are open are the valid records of the network, and its
-- runs are the runs of the network.
use Rattle.std.proofs.Common.{◌≡◌, ℕ, suc, ◌≤◌, ℤ, sym, subst, List, [], ◌∷◌}
use Rattle.std.specs.Prelude.{map, unsigned_abs}
use Rattle.std.specs.List.{AllByRecursion}
use Rattle.std.proofs.lemmas.List.Elements.{recursion_from_All, All-from_recursion}
use Rattle.hyd_net.specs.Sound.{IsSound}
use Rattle.hyd_spec.specs.ProgramTypes.{Project, Junction}
use Rattle.hyd_spec.specs.Lists.{map_from}
use Rattle.hyd_spec.specs.DemandsHeadsAndPumpLifts.{demand_of}
use Rattle.hyd_spec_certificates.specs.declared.Problem.{Problem}
use Rattle.hyd_spec_certificates.specs.declared.Side.{Side}
use Rattle.hyd_spec_certificates.specs.declared.Side.TheVariants.{Upper, Lower}
use Rattle.hyd_spec_certificates.specs.PeriodNetwork.{Grid}
use Rattle.hyd_spec_certificates.specs.RecordAndStanding.{vector_of}
use Rattle.hyd_spec_certificates.specs.Certificate.{IsCertificate}
use Rattle.hyd_spec_certificates.specs.Decided.{links_at}
use Rattle.hyd_spec_certificates.specs.Valid.{IsProblem, demand_limit}
use Rattle.hyd_spec_open_ends.specs.OpenStandings.{OpenStanding, OpenRecord, initial_open_standing}
use Rattle.hyd_spec_open_ends.specs.OpenRecords.{IsValidOpenly}
use Rattle.hyd_spec_open_ends.specs.OpenRuns.{OpenFound, IsOpenRunFrom, none as none_found, more as more_found}
use Rattle.hyd_spec_open_ends.specs.OpenRuns.{IsOpenRun}
use Rattle.hyd_spec_spread.specs.Spreads.{no_spread}
use Rattle.hyd_spec_spread.specs.IntervalsOfData.{known_junction}
use Rattle.hyd_spec_spread.specs.OutermostGrids.{IsOutermostGrid}
use Rattle.hyd_spec_spread_runs.specs.OutermostPairs.{grid_on, spanned, spanning}
use Rattle.hyd_spec_spread_runs.specs.RunsForSpreads.{IsDemandInRange}
use Rattle.hyd_spec_open_spreads.specs.OpenRunsForSpreads.{open_standing_within, IsValidOpenlyOver, IsOpenRunOverFrom}
use Rattle.hyd_spec_open_spreads.specs.OpenRunsForSpreads.{none, more, IsOpenRunOver}
use Rattle.hyd_theorems_on_spread.proofs.OwnNetwork.{grid-alone, grid-outermost}
use Rattle.hyd_theorems_on_spread.proofs.ProductsInOrder.{products-least, products-greatest}
use Rattle.hyd_theorems_on_spread_runs.proofs.RunsAlone.{both, boxes-alone, standing-alone, start-alone}
use Rattle.hyd_theorems_on_spread_runs.proofs.SameBoxes.{turned}
use Rattle.hyd_theorems_on_open_spreads.specs.RunsAsOthers.{on_both_sides}
use Rattle.hyd_theorems_on_open_spreads.proofs.SameBoxesOpenly.{leads-openly-alike}

-- ---- the start

pub open-standing-alone : (project : Project) → open_standing_within project no_spread ≡ initial_open_standing project
open-standing-alone project = λ i. record { known = standing-alone project i; late = 0 }

-- ---- demands

pub ranges-to : (project : Project) (time from : ℕ) (js : List Junction)
    → AllByRecursion IsDemandInRange (map_from (known_junction project no_spread time) from js)
    → AllByRecursion (λ (j : Junction). unsigned_abs (demand_of project time j) ≤ demand_limit) js
ranges-to project time from [] all = tt
ranges-to project time from (j ∷ js) all = (
  subst (λ (z : ℤ). unsigned_abs z ≤ demand_limit) (products-least (demand_of project time j)) all.0.least,
  ranges-to project time (suc from) js all.1,
)

pub ranges-from : (project : Project) (time from : ℕ) (js : List Junction)
    → AllByRecursion (λ (j : Junction). unsigned_abs (demand_of project time j) ≤ demand_limit) js
    → AllByRecursion IsDemandInRange (map_from (known_junction project no_spread time) from js)
ranges-from project time from [] all = tt
ranges-from project time from (j ∷ js) all = (
  record {
    least = subst (λ (z : ℤ). unsigned_abs z ≤ demand_limit) (sym (products-least (demand_of project time j))) all.0;
    greatest = subst (λ (z : ℤ). unsigned_abs z ≤ demand_limit) (sym (products-greatest (demand_of project time j)))
        all.0;
  },
  ranges-from project time (suc from) js all.1,
)

-- ---- records

module _ (project : Project) (sound : IsSound project) (standing : OpenStanding) (grid : Grid) (found : OpenRecord)
    (next : OpenStanding) where
  pub openly-alone : IsValidOpenlyOver project no_spread standing (both grid) found next
      → IsValidOpenly project standing grid found next
  openly-alone valid = record {
    unfinished = valid.unfinished;
    number = valid.number;
    time = valid.time;
    late = valid.late;
    demands = All-from_recursion _ _ (ranges-to project standing.known.time 0 project.junctions.list valid.demands);
    is_grid = grid-alone project sound Upper standing.known.time standing.known.levels standing.known.tanks
        (links_at project standing.known) grid (valid.are_pair Upper);
    certificates = record {
      pinned_each = valid.certificates.pinned_each;
      each = by-side;
    };
    leads_on = leads-openly-alike project standing (spanned (both grid)) grid (spanning (both grid) found.row)
        found.row (boxes-alone project grid found.row) found.late found.shortest next valid.leads_on;
  }
    where
      by-side : (problem : Problem) (side : Side) → IsProblem project problem
          → IsCertificate grid problem side (vector_of found.row problem side)
      by-side problem Upper is = valid.certificates.each problem Upper is
      by-side problem Lower is = valid.certificates.each problem Lower is

  pub openly-over : IsValidOpenly project standing grid found next
      → IsValidOpenlyOver project no_spread standing (both grid) found next
  openly-over valid = record {
    unfinished = valid.unfinished;
    number = valid.number;
    time = valid.time;
    late = valid.late;
    demands = ranges-from project standing.known.time 0 project.junctions.list
        (recursion_from_All _ _ valid.demands);
    are_pair = pair-side;
    certificates = record {
      pinned_each = valid.certificates.pinned_each;
      each = by-side;
    };
    leads_on = leads-openly-alike project standing grid (spanned (both grid)) found.row
        (spanning (both grid) found.row)
        (turned project (spanned (both grid)) grid (spanning (both grid) found.row) found.row
        (boxes-alone project grid found.row)) found.late found.shortest next valid.leads_on;
  }
    where
      pair-side : (side : Side) → IsOutermostGrid project no_spread side standing.known.time standing.known.levels
          standing.known.tanks (links_at project standing.known) (grid_on side (both grid))
      pair-side Upper = grid-outermost project sound Upper standing.known.time standing.known.levels
          standing.known.tanks (links_at project standing.known) grid valid.is_grid
      pair-side Lower = grid-outermost project sound Lower standing.known.time standing.known.levels
          standing.known.tanks (links_at project standing.known) grid valid.is_grid

      by-side : (problem : Problem) (side : Side) → IsProblem project problem
          → IsCertificate (grid_on side (both grid)) problem side (vector_of found.row problem side)
      by-side problem Upper is = valid.certificates.each problem Upper is
      by-side problem Lower is = valid.certificates.each problem Lower is

-- ---- runs

module _ (project : Project) (sound : IsSound project) (slack : ℕ) where
  runs-over : (standing : OpenStanding) (founds : List OpenFound) (last : OpenStanding)
      → IsOpenRunFrom project slack standing founds last
      → IsOpenRunOverFrom project no_spread slack standing (map on_both_sides founds) last
  runs-over _ _ last none_found = none
  runs-over _ _ last (more_found {here = here} {rest = rest} valid within go) =
      more {here = on_both_sides here}
      (openly-over project sound here.standing here.grid here.found here.next valid) within
      (runs-over here.next rest last go)

  runs-back : (standing : OpenStanding) (founds : List OpenFound) (last : OpenStanding)
      → IsOpenRunOverFrom project no_spread slack standing (map on_both_sides founds) last
      → IsOpenRunFrom project slack standing founds last
  runs-back _ [] last none = none_found
  runs-back _ (here ∷ rest) last (more valid within go) =
      more_found {here = here}
      (openly-alone project sound here.standing here.grid here.found here.next valid) within
      (runs-back here.next rest last go)

  pub run-over : (founds : List OpenFound) (last : OpenStanding) → IsOpenRun project slack founds last
      → IsOpenRunOver project no_spread slack (map on_both_sides founds) last
  run-over founds last run = record {
    start = start-alone project;
    run = subst (λ (s : OpenStanding). IsOpenRunOverFrom project no_spread slack s (map on_both_sides founds) last)
        (sym (open-standing-alone project)) (runs-over (initial_open_standing project) founds last run);
  }

  pub run-alone : (founds : List OpenFound) (last : OpenStanding)
      → IsOpenRunOver project no_spread slack (map on_both_sides founds) last → IsOpenRun project slack founds last
  run-alone founds last over =
      subst (λ (s : OpenStanding). IsOpenRunFrom project slack s founds last) (open-standing-alone project)
      (runs-back (open_standing_within project no_spread) founds last over.run)
