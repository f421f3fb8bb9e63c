-- How a period ends by both grids of a spread: as it ends by the record with the heads of reservoirs on the grid without
-- reservoirs.
use Rattle.std.specs.Prelude.{ℕ}
use Rattle.hyd_spec.specs.ProgramTypes.{Project}
use Rattle.hyd_spec_open_ends.specs.OpenStandings.{OpenStanding, OpenRecord}
use Rattle.hyd_spec_open_refusals.specs.RefusedOpenRecords.{LeavesMatterOpen, HasOtherLengths}
use Rattle.hyd_spec_spread_runs.specs.OutermostPairs.{Pair, spanned}
use Rattle.hyd_spec_open_spreads.specs.OpenRunsForSpreads.{spanning_openly}
use Rattle.hyd_open_certificates.specs.OpenRowView.{open_record_of}
use Rattle.hyd_open_certificates.specs.declared.open_row.OpenRow.{OpenRow}
use Rattle.hyd_period_facts.specs.declared.facts.Facts.{Facts}
use Rattle.hyd_period_end.specs.declared.undecided.Open.{Open}
use Rattle.hyd_open_period_end.specs.OpenMatters.{IsOpenlyOpenAt}
use Rattle.hyd_open_period_end.specs.declared.open_period_end.OpenPeriodEnd.{OpenPeriodEnd}
use Rattle.hyd_open_sim_start.specs.declared.standing.Standing.{Standing as Here}
use Rattle.hyd_open_sim.specs.EndedPeriods.{IsOverBy}

-- a period is over by the record that the program keeps, and this is what it leaves
abbrev pub IsOverOnBoth : Project → ℕ → Here → Pair → OpenRow → Facts → OpenPeriodEnd → Type 0
IsOverOnBoth project slack here pair found facts close =
    IsOverBy project slack here (spanned pair) (spanning_openly pair (open_record_of found)) facts close

-- the vectors of a record leave this open first
abbrev pub IsOpenOnBoth : Project → Pair → OpenStanding → ℕ → OpenRecord → Open → Type 0
IsOpenOnBoth project pair standing slack found what =
    IsOpenlyOpenAt project (spanned pair) standing slack (spanning_openly pair found) what

-- they leave some matter open, by however many seconds
abbrev pub LeavesOpenOnBoth : Project → Pair → OpenStanding → OpenRecord → Type 0
LeavesOpenOnBoth project pair standing found =
    LeavesMatterOpen project (spanned pair) standing (spanning_openly pair found)

-- its lengths are others than the decided ones
abbrev pub HasOtherLengthsOnBoth : Project → Pair → OpenStanding → OpenRecord → Type 0
HasOtherLengthsOnBoth project pair standing found =
    HasOtherLengths project (spanned pair) standing (spanning_openly pair found)
