-- Why a period of a run for a spread stops that is due: a vector lacks, or the tight vectors leave a matter open.
use Rattle.std.proofs.Common.{◌≡◌, ℕ, length, refl, sym, subst}
use Rattle.std.specs.Prelude.{true, Ok, Err, Result, IfErr}
use Rattle.hyd_spec.specs.ProgramTypes.{Project}
use Rattle.hyd_spec.specs.NodeNumbers.{tank_count}
use Rattle.hyd_spec_certificates.specs.declared.StopCause.{StopCause}
use Rattle.hyd_spec_certificates.specs.RecordAndStanding.{Record, Standing}
use Rattle.hyd_spec_open_ends.specs.OpenStandings.{OpenStanding, OpenRecord}
use Rattle.hyd_spec_open_ends.specs.OpenEnds.{longest_length}
use Rattle.hyd_spec_open_ends.specs.OpenRecords.{levels_left}
use Rattle.hyd_spec_open_refusals.specs.RefusedOpenRecords.{lasting}
use Rattle.hyd_spec_spread.specs.Spreads.{Spread}
use Rattle.hyd_spec_spread_runs.specs.OutermostPairs.{Pair, spanned, spanning}
use Rattle.hyd_spec_spread_runs.specs.RunsForSpreads.{AreDemandsInRange, ArePairAt}
use Rattle.hyd_spec_open_spreads.specs.OpenRunsForSpreads.{spanning_openly}
use Rattle.hyd_spec_spread_promises.specs.SharpOverSpreads.{AreTightOver}
use Rattle.hyd_spec_spread_stops.specs.StopsOfSpreads.{IsTightRowOver, StopsOver}
use Rattle.hyd_period_end.specs.OpenMatters.{SharesVectors}
use Rattle.hyd_period_end.specs.declared.undecided.Open.{Open as Matter}
use Rattle.hyd_period_end.specs.declared.undecided.Open.TheVariants.{Rule, Event, Tank, Control}
use Rattle.hyd_sim.specs.NarrowRecordsAndStops.{SaysNone, open_stop_of}
use Rattle.hyd_spread_period_end.specs.EndedOverSpreads.{IsOpenOnBoth}
use Rattle.hyd_spread_stops.specs.StuckOverSpreads.{NamesStuckOver}
use Rattle.hyd_spread_stops.proofs.LackingOver.{lack-stops-over, lack-stuck-over}
use Rattle.hyd_spread_vectors.specs.VectorsOfBothNetworks.{Told, Held}
use Rattle.hyd_spread_sim.specs.DuePeriods.{fault_stop_of}
use Rattle.hyd_spread_sim.specs.PeriodAttempt.{AreSoughtOver, IsFaultOver}
use Rattle.hyd_spread_sim.specs.declared.period_attempt.Fault.{Fault}
use Rattle.hyd_spread_sim.specs.declared.period_attempt.Fault.TheVariants.{Lack, Open}

module _ (project : Project) (spread : Spread) (standing : OpenStanding) (slack rounds : ℕ) (pair : Pair) where
  -- what the tight vectors of both grids leave open
  module _ (row : Record) (tight : IsTightRowOver project spread standing.known pair row) where
    abbrev given : OpenRecord
    given = record { row = row; late = 0; shortest = 0 }

    tight-too : (n : ℕ) → IsTightRowOver project spread standing.known pair (record row { length = n })
    tight-too n = record {
      in_range = tight.in_range;
      are_pair = tight.are_pair;
      one_each = tight.one_each;
      each = tight.each;
    }

    pub matter-stops : (what : Matter)
        → ((other : OpenRecord) → SharesVectors other.row row → IsOpenOnBoth project pair standing slack other what)
        → StopsOver project spread standing slack rounds (open_stop_of standing.known.number what)
    matter-stops (Rule rule) opens = record {
      period_is = refl;
      holds = record {
        pair = pair;
        row = row;
        tight = tight;
        is_open = opens given (record { main = refl; pinned = refl });
      };
    }
    matter-stops (Event earliest latest) opens = record {
      period_is = refl;
      holds = record {
        pair = pair;
        row = row;
        tight = tight;
        is_open = opens given (record { main = refl; pinned = refl });
      };
    }
    matter-stops (Tank found) opens =
        let at = opens given (record { main = refl; pinned = refl }) in
        let there = lasting standing given at.way in
        record {
          period_is = refl;
          holds = record {
            levels = levels_left project (spanned pair) standing.known (spanning_openly pair there) at.reached;
            at_levels = record {
              pair = pair;
              found = there;
              tight = tight-too (longest_length at.way);
              way = at.way;
              ends = at.ends (spanning pair there.row) (record { main = refl; pinned = refl });
              within = at.within;
              shortest = refl;
              longest = refl;
              reached = at.reached;
              arrives = at.arrives (spanning pair there.row) (record { main = refl; pinned = refl });
              levels_are = refl;
            };
            first = at.at_levels.first;
            level_is = at.at_levels.level;
          };
        }
    matter-stops (Control found) opens =
        let at = opens given (record { main = refl; pinned = refl }) in
        let there = lasting standing given at.way in
        record {
          period_is = refl;
          holds = record {
            levels = levels_left project (spanned pair) standing.known (spanning_openly pair there) at.reached;
            at_levels = record {
              pair = pair;
              found = there;
              tight = tight-too (longest_length at.way);
              way = at.way;
              ends = at.ends (spanning pair there.row) (record { main = refl; pinned = refl });
              within = at.within;
              shortest = refl;
              longest = refl;
              reached = at.reached;
              arrives = at.arrives (spanning pair there.row) (record { main = refl; pinned = refl });
              levels_are = refl;
            };
            tanks_decided = at.at_levels.tanks_decided;
            first = at.at_levels.first;
            tank = at.at_levels.tank;
            above = at.at_levels.above;
            ticks = at.at_levels.ticks;
            control = at.at_levels.control;
            is_control = at.at_levels.is_control;
            is_level = at.at_levels.is_level;
            level_is = at.at_levels.level_is;
          };
        }

  -- an attempt with tight vectors that fails
  pub fault-stops : (told : Told) (held : Held) (row : Record) → AreDemandsInRange project spread standing.known.time
      → ArePairAt project spread standing.known pair → length row.pinned ≡ tank_count project
      → (AreSoughtOver true told pair (tank_count project) rounds row → AreTightOver project pair row)
      → (fault : Fault) → IsFaultOver true told project pair standing slack rounds held row fault
      → StopsOver project spread standing slack rounds (fault_stop_of standing.known.number rounds fault)
  fault-stops told held row in_range are pinned tight (Lack lack) fault =
      lack-stops-over project spread standing slack rounds true told pair held lack in_range are fault
  fault-stops told held row in_range are pinned tight (Open what) fault =
      matter-stops row (record { in_range = in_range; are_pair = are; one_each = pinned; each = tight fault.0 }) what
      fault.1

-- ---- junctions that are stuck

-- a stop that says nothing of certificates names no junction
pub names-none : (project : Project) (spread : Spread) (standing : Standing) (rounds : ℕ) (cause : StopCause)
    → (SaysNone cause → ⊥) → NamesStuckOver project spread standing rounds cause
names-none project spread standing rounds cause other = record {
  stuck = λ period problem side junction e. absurd (other (subst SaysNone (sym e) tt));
}

-- an open matter says nothing of them
pub no-vector : (number : ℕ) (what : Matter) → SaysNone (open_stop_of number what) → ⊥
no-vector number (Rule rule) says = says
no-vector number (Event earliest latest) says = says
no-vector number (Tank found) says = says
no-vector number (Control found) says = says

-- an attempt with tight vectors that fails names what is stuck
pub fault-stuck : (project : Project) (spread : Spread) (standing : OpenStanding) (slack rounds : ℕ) (told : Told)
    (pair : Pair) (held : Held) (row : Record) → ArePairAt project spread standing.known pair → (fault : Fault)
    → IsFaultOver true told project pair standing slack rounds held row fault
    → NamesStuckOver project spread standing.known rounds (fault_stop_of standing.known.number rounds fault)
fault-stuck project spread standing slack rounds told pair held row are (Lack lack) fault =
    lack-stuck-over project spread standing.known rounds true told pair held lack are fault standing.known.number
fault-stuck project spread standing slack rounds told pair held row are (Open what) fault =
    names-none project spread standing.known rounds (open_stop_of standing.known.number what)
    (no-vector standing.known.number what)

-- a run that stops for one of two causes
pub either-stuck : {A : Type 0} (project : Project) (spread : Spread) (standing : Standing) (rounds : ℕ)
    (result : Result A StopCause) → IfErr result (λ cause. SaysNone cause → ⊥)
    → IfErr result (NamesStuckOver project spread standing rounds)
either-stuck project spread standing rounds (Ok value) none = tt
either-stuck project spread standing rounds (Err cause) none =
    names-none project spread standing rounds cause none
