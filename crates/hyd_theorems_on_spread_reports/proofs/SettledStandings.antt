-- What every standing of a run keeps that is told of: its levels lie within the bounds of the tanks, whatever the grids
-- of the run are.
use Rattle.std.proofs.Common.{◌≡◌, ℕ, sym, ap, subst, ◌∙◌, List}
use Rattle.std.specs.Prelude.{Some, slice_get, slice_index_or}
use Rattle.hyd_net.specs.Sound.{IsSound}
use Rattle.hyd_spec.specs.ProgramTypes.{Project, Tank}
use Rattle.hyd_spec.specs.Tank.{walls_of, level_bounds}
use Rattle.hyd_spec_certificates.specs.Interval.{Interval}
use Rattle.hyd_spec_certificates.specs.PeriodNetwork.{Grid}
use Rattle.hyd_spec_certificates.specs.Decided.{level_of_tank, stocks_of_tank, inflow_of_tank, nowhere}
use Rattle.hyd_spec_open_ends.specs.OpenStandings.{OpenStanding, OpenRecord}
use Rattle.hyd_spec_open_ends.specs.Arrivals.{arrival_of}
use Rattle.hyd_spec_open_ends.specs.OpenRecords.{ContinuesOpenly, carried_left, stocks_left, level_left}
use Rattle.hyd_theorems_on_definitions.specs.LyingInIntervals.{IsWithin}
use Rattle.hyd_theorems_on_definitions.proofs.SoundTankLemmas.{vessels}
use Rattle.hyd_theorems_on_histories.specs.Agreement.{IsKept}
use Rattle.hyd_theorems_on_histories.proofs.ListsByPlace.{numbered_from_start}
use Rattle.hyd_theorems_on_open_ends.specs.AgreementOverStarts.{HasQuietStart, IsKeptOpenly}
use Rattle.hyd_theorems_on_open_ends.proofs.AgreementOverEnds.{kept_on}
use Rattle.hyd_theorems_on_open_ends.proofs.ContentsAtGoals.{measured}
use Rattle.hyd_theorems_on_open_standings.proofs.WhatEndsLeave.{carried_end_within, level_end_within}
use Rattle.hyd_theorems_on_open_standings.proofs.WhatEndsLeave.{carried_inside_level, kept_holds}

-- It keeps what the standings of runs without open ends keep, and no instant of the clock lies in an open start.
pub record IsSettled (project : Project) (standing : OpenStanding) : Type 0 where
  pub kept : IsKept project standing.known
  pub quiet : HasQuietStart project standing

pub kept_openly : (project : Project) (standing : OpenStanding) → IsSettled project standing
    → IsKeptOpenly project standing
kept_openly project standing settled = record {
  controls = settled.kept.controls;
  states = settled.kept.states;
  quiet = settled.quiet;
}

module _ (project : Project) (sound : IsSound project) (grid : Grid) (standing : OpenStanding) (found : OpenRecord)
    (next : OpenStanding) (settled : IsSettled project standing)
    (c : ContinuesOpenly project grid standing found next) where
  level-within : (k : ℕ) (tank : Tank) → slice_get project.tanks.list k ≡ Some tank
      → IsWithin (level_bounds tank) (level_left project grid standing.known found c.reached k tank)
  level-within k tank at =
      let stocks = stocks_of_tank standing.known k in
      let inflow = inflow_of_tank project grid found.row k in
      let arrival = arrival_of found.shortest c.reached k in
      let vessel = vessels project sound k tank at in
      (kept_holds (level_bounds tank) k (carried_left project grid standing.known found c.reached k tank)
      project.controls.list (stocks_left project grid standing.known found c.reached k tank).level
      (carried_end_within stocks inflow found.shortest found.row.length arrival (walls_of project tank) tank vessel)
      (record {
        inside = carried_inside_level stocks inflow found.shortest found.row.length arrival (walls_of project tank) tank
            vessel (measured project sound k tank at).contents_apart;
        within = level_end_within stocks inflow found.shortest found.row.length arrival (walls_of project tank) tank
            vessel;
      })).within

  pub settled_on : IsSettled project next
  settled_on =
      let kept = kept_on project sound grid standing found next (kept_openly project standing settled) c in
      record {
        kept = record {
          controls = c.controls;
          levels = λ k tank at.
              let e : level_of_tank next.known k ≡ level_left project grid standing.known found c.reached k tank =
              ap (λ (ls : List Interval). slice_index_or ls k nowhere) c.levels
              ∙ numbered_from_start Tank Interval (level_left project grid standing.known found c.reached)
              project.tanks.list k tank nowhere at in
              subst (IsWithin (level_bounds tank)) (sym e) (level-within k tank at);
          states = kept.states;
        };
        quiet = kept.quiet;
      }
