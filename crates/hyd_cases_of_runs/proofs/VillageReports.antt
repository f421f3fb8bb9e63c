-- The lines of the report are those of each period of the village.
use Rattle.std.proofs.Common.{◌≡◌, ℕ, ℤ, pos, ◌+ℤ◌, ◌-ℤ◌, ◌*ℤ◌, ◌≤ℤ◌, Bool, true, false, ◌&&◌, [], int_le, take, drop}
use Rattle.std.proofs.Common.{refl, sym, ap, arith}
use Rattle.std.specs.Prelude.{◌^◌, slice_get, Some}
use Rattle.std.proofs.lemmas.Int.{ints}
use Rattle.hyd_num.specs.PrintedDecimals.{head_quantity, flow_quantity}
use Rattle.hyd_spec.specs.ProgramTypes.{Cmd, Link}
use Rattle.hyd_spec.specs.declared.TankState.{TankState}
use Rattle.hyd_spec_certificates.specs.declared.StatusWord.{StatusWord}
use Rattle.hyd_spec_certificates.specs.Interval.{Interval, exactly, shifted}
use Rattle.hyd_spec.specs.Assignment.{head_at}
use Rattle.hyd_spec.specs.Rules.{state_of_link}
use Rattle.hyd_spec_certificates.specs.PeriodNetwork.{Grid, GridLink, GridJunction}
use Rattle.hyd_spec_certificates.specs.FlowIntervals.{difference, out_box}
use Rattle.hyd_spec_certificates.specs.RecordAndStanding.{Record, Standing}
use Rattle.hyd_spec_certificates.specs.Decided.{heads_below, heads_above, flow_boxes, level_of_tank, inflow_of_tank}
use Rattle.hyd_spec_certificates.specs.Decided.{links_at}
use Rattle.hyd_spec_reports.specs.ReportLine.{JunctionLine, ReservoirLine, TankLine, LinkLine}
use Rattle.hyd_spec_certificates.specs.PrintedIntervals.{Prints}
use Rattle.hyd_spec_reports.specs.Report.{IsJunctionLine, IsReservoirLine, IsTankLine, IsLinkLine}
use Rattle.hyd_spec_certificates.specs.StatusesOfLinks.{status_of}
use Rattle.hyd_spec_reports.specs.Report.{AreStateLines, IsReport}
use Rattle.hyd_spec_certificates.specs.EndsOfPeriods.{at_end, by_rules, by_clock}
use Rattle.hyd_cases_of_runs.specs.Village.{Choice, village_with, village, usual}
use Rattle.hyd_cases_of_runs.specs.VillageRun.{standing_0, standing_1, standing_2, standing_3, standing_4, grid_0}
use Rattle.hyd_cases_of_runs.specs.VillageRun.{grid_1}
use Rattle.hyd_cases_of_runs.specs.VillageRun.{grid_2, grid_3, grid_4, row_0, row_1, row_2, row_3, row_4, lines_0}
use Rattle.hyd_cases_of_runs.specs.VillageRun.{lines_1}
use Rattle.hyd_cases_of_runs.specs.VillageRun.{lines_2, lines_3, lines_4}
use Rattle.hyd_cases_of_runs.proofs.VillageEnds.{first_ends, second_ends, third_ends, fourth_ends}
use Rattle.hyd_lemmas.proofs.BooleanTests.{le-yes, both-first, both-second}

-- ---- printed numbers

-- whether the ends print an interval of so many ticks for a ten-thousandth
abbrev pub rounds : ℤ → Interval → Interval → Bool
rounds unit ticks ends =
    (int_le (ends.lo *ℤ unit) ticks.lo && int_le (ticks.lo +ℤ pos 1) ((ends.lo +ℤ pos 1) *ℤ unit))
    && (int_le ticks.hi (ends.hi *ℤ unit) && int_le (((ends.hi -ℤ pos 1) *ℤ unit) +ℤ pos 1) ticks.hi)

-- What they do then.
record Rounds (unit : ℤ) (ticks ends : Interval) : Type 0 where
  down : (ends.lo *ℤ unit) ≤ℤ ticks.lo
  no_higher : (ticks.lo +ℤ pos 1) ≤ℤ ((ends.lo +ℤ pos 1) *ℤ unit)
  up : ticks.hi ≤ℤ (ends.hi *ℤ unit)
  no_lower : (((ends.hi -ℤ pos 1) *ℤ unit) +ℤ pos 1) ≤ℤ ticks.hi

rounded : (unit : ℤ) (ticks ends : Interval) → rounds unit ticks ends ≡ true → Rounds unit ticks ends
rounded unit ticks ends e =
    let a = int_le (ends.lo *ℤ unit) ticks.lo in
    let b = int_le (ticks.lo +ℤ pos 1) ((ends.lo +ℤ pos 1) *ℤ unit) in
    let c = int_le ticks.hi (ends.hi *ℤ unit) in
    let d = int_le (((ends.hi -ℤ pos 1) *ℤ unit) +ℤ pos 1) ticks.hi in
    let below = both-first (a && b) (c && d) e in
    let above = both-second (a && b) (c && d) e in
    record {
      down = le-yes (ends.lo *ℤ unit) ticks.lo (both-first a b below);
      no_higher = le-yes (ticks.lo +ℤ pos 1) ((ends.lo +ℤ pos 1) *ℤ unit) (both-second a b below);
      up = le-yes ticks.hi (ends.hi *ℤ unit) (both-first c d above);
      no_lower = le-yes (((ends.hi -ℤ pos 1) *ℤ unit) +ℤ pos 1) ticks.hi (both-second c d above);
    }

pub prints_heads : (ticks ends : Interval) → rounds (pos (10 ^ 9)) ticks ends ≡ true
    → Prints (head_quantity false) ticks ends
prints_heads ticks ends e =
    let r = rounded (pos (10 ^ 9)) ticks ends e in
    record {
      down = record { at_most = omega (arith, ints, r.down); greatest = λ k le. omega (arith, ints, r.no_higher, le) };
      up = record { at_least = omega (arith, ints, r.up); least = λ k le. omega (arith, ints, r.no_lower, le) };
    }

pub prints_flows : (ticks ends : Interval) → rounds (pos 1000) ticks ends ≡ true → Prints (flow_quantity Cmd) ticks ends
prints_flows ticks ends e =
    let r = rounded (pos 1000) ticks ends e in
    record {
      down = record { at_most = omega (arith, ints, r.down); greatest = λ k le. omega (arith, ints, r.no_higher, le) };
      up = record { at_least = omega (arith, ints, r.up); least = λ k le. omega (arith, ints, r.no_lower, le) };
    }

-- ---- lines

pub reservoir_line : (choice : Choice) (r : ℕ) (height : ℤ) (head : Interval)
    → rounds (pos (10 ^ 9)) (exactly height) head ≡ true
    → IsReservoirLine (village_with choice) r height (ReservoirLine r head)
reservoir_line choice r height head e = record {
  head = head;
  is_line = refl;
  head_is = prints_heads (exactly height) head e;
}

module _ (choice : Choice) (grid : Grid) (standing : Standing) (row : Record) where
  abbrev heads_of : ℕ → Interval
  heads_of j = record { lo = head_at row.main.lower j; hi = head_at row.main.upper j }

  abbrev pressures_of : ℕ → GridJunction → Interval
  pressures_of j junction = record {
    lo = head_at row.main.lower j -ℤ junction.elevation;
    hi = head_at row.main.upper j -ℤ junction.elevation;
  }

  abbrev outflow_of : ℕ → GridJunction → Interval
  outflow_of j junction = out_box junction (head_at row.main.lower j) (head_at row.main.upper j)

  pub junction_line : (j : ℕ) (junction : GridJunction) (head pressure outflow : Interval)
      → rounds (pos (10 ^ 9)) (heads_of j) head ≡ true
      → rounds (pos (10 ^ 9)) (pressures_of j junction) pressure ≡ true
      → rounds (pos 1000) (outflow_of j junction) outflow ≡ true
      → IsJunctionLine (village_with choice) grid row j junction (JunctionLine j head pressure outflow)
  junction_line j junction head pressure outflow a b c = record {
    heads = heads_of j;
    heads_are = refl;
    head = head;
    pressure = pressure;
    outflow = outflow;
    is_line = refl;
    head_is = prints_heads (heads_of j) head a;
    pressure_is = prints_heads (pressures_of j junction) pressure b;
    outflow_is = prints_flows (outflow_of j junction) outflow c;
  }

  pub tank_line : (head level inflow : Interval) (state : TankState)
      → rounds (pos (10 ^ 9)) (shifted choice.tank.bottom (level_of_tank standing 0)) head ≡ true
      → rounds (pos (10 ^ 9)) (level_of_tank standing 0) level ≡ true
      → rounds (pos 1000) (inflow_of_tank (village_with choice) grid row 0) inflow ≡ true
      → slice_get standing.tanks 0 ≡ Some state → IsTankLine (village_with choice) grid standing row 0 choice.tank
      (TankLine 0 head level inflow state)
  tank_line head level inflow state a b c at = record {
    head = head;
    level = level;
    inflow = inflow;
    state = state;
    is_line = refl;
    head_is = prints_heads (shifted choice.tank.bottom (level_of_tank standing 0)) head a;
    level_is = prints_heads (level_of_tank standing 0) level b;
    inflow_is = prints_flows (inflow_of_tank (village_with choice) grid row 0) inflow c;
    state_is = at;
  }

  pub link_line : (l : ℕ) (link : Link) (place : GridLink) (box flow : Interval) (word : StatusWord)
      → slice_get grid.links l ≡ Some place
      → slice_get (flow_boxes grid row) l ≡ Some box → rounds (pos 1000) box flow ≡ true
      → status_of false [] link.kind (state_of_link (links_at (village_with choice) standing) l)
      (difference place (heads_below grid row) (heads_above grid row)) ≡ word
      → IsLinkLine (village_with choice) grid standing row l link (LinkLine l flow word)
  link_line l link place box flow word at boxed e is = record {
    place = place;
    place_is = at;
    box = box;
    box_is = boxed;
    flow = flow;
    flow_is = prints_flows box flow e;
    is_line = ap (LinkLine l flow) (sym is);
  }

-- ---- the lines of the two report times

first_state : AreStateLines village grid_0 standing_0 row_0 lines_0
first_state = record {
  junctions = take 2 (drop 1 lines_0);
  reservoirs = take 1 (drop 3 lines_0);
  tanks = take 1 (drop 4 lines_0);
  links = drop 5 lines_0;
  junctions_are = (
    junction_line usual grid_0 standing_0 row_0 0 _ _ _ _ refl refl refl,
    (junction_line usual grid_0 standing_0 row_0 1 _ _ _ _ refl refl refl, tt),
  );
  reservoirs_are = (reservoir_line usual 0 _ _ refl, tt);
  tanks_are = (tank_line usual grid_0 standing_0 row_0 _ _ _ _ refl refl refl refl, tt);
  links_are = (
    link_line usual grid_0 standing_0 row_0 0 _ _ _ _ _ refl refl refl refl,
    (
      link_line usual grid_0 standing_0 row_0 1 _ _ _ _ _ refl refl refl refl,
      (link_line usual grid_0 standing_0 row_0 2 _ _ _ _ _ refl refl refl refl, tt),
    ),
  );
  lines_are = refl;
}

fifth_state : AreStateLines village grid_4 standing_4 row_4 lines_4
fifth_state = record {
  junctions = take 2 (drop 1 lines_4);
  reservoirs = take 1 (drop 3 lines_4);
  tanks = take 1 (drop 4 lines_4);
  links = drop 5 lines_4;
  junctions_are = (
    junction_line usual grid_4 standing_4 row_4 0 _ _ _ _ refl refl refl,
    (junction_line usual grid_4 standing_4 row_4 1 _ _ _ _ refl refl refl, tt),
  );
  reservoirs_are = (reservoir_line usual 0 _ _ refl, tt);
  tanks_are = (tank_line usual grid_4 standing_4 row_4 _ _ _ _ refl refl refl refl, tt);
  links_are = (
    link_line usual grid_4 standing_4 row_4 0 _ _ _ _ _ refl refl refl refl,
    (
      link_line usual grid_4 standing_4 row_4 1 _ _ _ _ _ refl refl refl refl,
      (link_line usual grid_4 standing_4 row_4 2 _ _ _ _ _ refl refl refl refl, tt),
    ),
  );
  lines_are = refl;
}

-- ---- reports

pub first_report : IsReport village grid_0 standing_0 row_0 lines_0
first_report = record {
  state = lines_0;
  state_are = first_state;
  at_end = [];
  at_end_are = record {
    events = _;
    changes = _;
    brings = by_clock first_ends;
    lines_are = refl;
  };
  lines_are = refl;
}

pub second_report : IsReport village grid_1 standing_1 row_1 lines_1
second_report = record {
  state = [];
  state_are = refl;
  at_end = lines_1;
  at_end_are = record {
    events = _;
    changes = _;
    brings = by_clock second_ends;
    lines_are = refl;
  };
  lines_are = refl;
}

pub third_report : IsReport village grid_2 standing_2 row_2 lines_2
third_report = record {
  state = [];
  state_are = refl;
  at_end = drop 1 lines_2;
  at_end_are = record {
    events = _;
    changes = _;
    brings = by_rules third_ends;
    lines_are = refl;
  };
  lines_are = refl;
}

pub fourth_report : IsReport village grid_3 standing_3 row_3 lines_3
fourth_report = record {
  state = [];
  state_are = refl;
  at_end = [];
  at_end_are = record {
    events = _;
    changes = _;
    brings = by_clock fourth_ends;
    lines_are = refl;
  };
  lines_are = refl;
}

pub fifth_report : IsReport village grid_4 standing_4 row_4 lines_4
fifth_report = record {
  state = lines_4;
  state_are = fifth_state;
  at_end = [];
  at_end_are = record {
    events = _;
    changes = _;
    brings = at_end refl;
    lines_are = refl;
  };
  lines_are = refl;
}
