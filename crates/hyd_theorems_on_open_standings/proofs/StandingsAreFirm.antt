-- Every standing of a run whose ends may be open is firm: its levels lie within the bounds of the tanks, and there is
-- some stock in each interval.
use Rattle.std.proofs.Common.{◌≡◌, ℕ, refl}
use Rattle.std.proofs.Common.{arith}
use Rattle.std.proofs.Common.{List, length, inl}
use Rattle.std.specs.Prelude.{Option, Some, slice_get}
use Rattle.std.proofs.lemmas.Int.{ints}
use Rattle.hyd_net.specs.Sound.{IsSound}
use Rattle.hyd_spec.specs.ProgramTypes.{Project, Tank}
use Rattle.hyd_spec.specs.Tank.{level_bounds}
use Rattle.hyd_spec_certificates.specs.PeriodNetwork.{Grid}
use Rattle.hyd_spec_certificates.specs.RecordAndStanding.{Record, Standing}
use Rattle.hyd_spec_certificates.specs.Decided.{Watch}
use Rattle.hyd_spec_certificates.specs.Valid.{IsGridAt, AreCertificates}
use Rattle.hyd_spec_open_ends.specs.OpenStandings.{OpenStanding, OpenRecord, initial_open_standing}
use Rattle.hyd_spec_open_ends.specs.OpenEnds.{Way, EndsIn}
use Rattle.hyd_spec_open_ends.specs.OpenEnds.{shortest_length, longest_length}
use Rattle.hyd_spec_open_ends.specs.Arrivals.{Arrives}
use Rattle.hyd_spec_open_ends.specs.OpenRecords.{IsValidOpenly, carried_left, stocks_left, level_left}
use Rattle.hyd_spec_open_ends.specs.OpenRuns.{OpenFound, IsOpenRunFrom, none as no_more, more as one_more}
use Rattle.hyd_theorems_on_definitions.proofs.SoundTankLemmas.{vessels}
use Rattle.hyd_theorems_on_histories.proofs.AgreementAfterPeriod.{kept_at_start}
use Rattle.hyd_theorems_on_nesting.specs.Nesting.{IsOrdered, AreNested}
use Rattle.hyd_theorems_on_nesting.proofs.NestedBoxes.{inflow_ordered}
use Rattle.hyd_theorems_on_nesting.proofs.TightVectorsDecide.{steady_at, tidy_at_start}
use Rattle.hyd_theorems_on_open_ends.specs.AgreementOverStarts.{IsKeptOpenly}
use Rattle.hyd_theorems_on_open_standings.specs.FirmStandings.{IsFirm}
pub use Rattle.hyd_theorems_on_open_standings.proofs.StandingsByFlows.{past}
use Rattle.hyd_theorems_on_open_standings.proofs.StandingsByFlows.{AreStocksAndFlows, carried-there, level-holds}
use Rattle.hyd_theorems_on_open_standings.proofs.StandingsByFlows.{level-there, volume-there, firm-by-lead}
use Rattle.hyd_theorems_on_open_standings.proofs.WhatEndsLeave.{HoldsCarried}

-- ---- what an end leaves

-- a record inside itself has stocks and flows in order
flows-of : (project : Project) (standing : Standing) (grid : Grid) (row : Record)
    → AreNested project standing grid row row → AreStocksAndFlows project standing grid row
flows-of project standing grid row nested = record {
  ordered = nested.ordered;
  flows = inflow_ordered project standing grid row row nested;
}

module _ (project : Project) (sound : IsSound project) (grid : Grid) (standing : OpenStanding) (found : OpenRecord)
    (nested : AreNested project standing.known grid found.row found.row) (way : Way)
    (ends : EndsIn project grid standing found.row way) (reached : Option Watch)
    (arrives : Arrives project grid standing.known found.row way reached)
    (is_short : found.shortest ≡ shortest_length standing.late way)
    (is_long : found.row.length ≡ longest_length way) (k : ℕ) (tank : Tank)
    (at : slice_get project.tanks.list k ≡ Some tank) where
  abbrev there : AreStocksAndFlows project standing.known grid found.row
  there = flows-of project standing.known grid found.row nested

  pub carried_there : IsOrdered (carried_left project grid standing.known found reached k tank)
  carried_there = carried-there project sound grid standing found there way ends reached arrives is_short is_long k
      tank at

  pub level_holds : HoldsCarried (level_bounds tank) (carried_left project grid standing.known found reached k tank)
      (level_left project grid standing.known found reached k tank)
  level_holds = level-holds project sound grid standing found there way ends reached arrives is_short is_long k tank at

  pub level_there : IsOrdered (level_left project grid standing.known found reached k tank)
  level_there = level-there project sound grid standing found there way ends reached arrives is_short is_long k tank at

  pub volume_there : IsOrdered (stocks_left project grid standing.known found reached k tank).volume
  volume_there = volume-there project sound grid standing found there way ends reached arrives is_short is_long k tank
      at

-- ---- standings

module _ (project : Project) (sound : IsSound project) where
  -- a record with certificates inside itself
  pub self_nested : (standing : OpenStanding) (grid : Grid) (row : Record) → IsFirm project standing
      → IsGridAt project standing.known grid → AreCertificates project grid row
      → AreNested project standing.known grid row row
  self_nested standing grid row firm is_grid certificates = record {
    is_grid = is_grid;
    steady = steady_at project sound standing.known grid firm.kept is_grid;
    levels_each = firm.tidy.levels_each;
    ordered = firm.tidy.ordered;
    outer_certificates = certificates;
    inner_certificates = certificates;
    about = record {
      upper = λ problem is i junction at. omega (arith, ints);
      lower = λ problem is i junction at. omega (arith, ints);
    };
    vessels = vessels project sound;
  }

  pub firm_at_start : IsFirm project (initial_open_standing project)
  firm_at_start = record {
    kept = kept_at_start project sound;
    tidy = tidy_at_start project sound;
    quiet = inl refl;
  }

  module _ (grid : Grid) (standing : OpenStanding) (found : OpenRecord) (next : OpenStanding)
      (firm : IsFirm project standing) (valid : IsValidOpenly project standing grid found next) where
    pub kept_openly : IsKeptOpenly project standing
    kept_openly = record { controls = firm.kept.controls; states = firm.kept.states; quiet = firm.quiet }

    pub firm_next : IsFirm project next
    firm_next =
        firm-by-lead project sound grid standing found next firm
        (inflow_ordered project standing.known grid found.row found.row
        (self_nested standing grid found.row firm valid.is_grid valid.certificates)) valid.leads_on

  -- along a run
  pub firm_along : (slack : ℕ) (standing : OpenStanding) (founds : List OpenFound) (last : OpenStanding)
      → IsOpenRunFrom project slack standing founds last → IsFirm project standing → IsFirm project last
  firm_along slack _ _ last no_more firm = firm
  firm_along slack _ _ last (one_more {here = here} {rest = rest} valid within go) firm =
      firm_along slack here.next rest last go (firm_next here.grid here.standing here.found here.next firm valid)
