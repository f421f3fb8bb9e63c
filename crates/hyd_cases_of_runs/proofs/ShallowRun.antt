-- The run of the shallow village.
use Rattle.std.proofs.Common.{◌^◌, ℤ, pos, true, false, [], ◌∷◌, inr, take, drop, refl, subst, arith, lit≤, lit<}
use Rattle.std.proofs.lemmas.Int.{ints, clamps}
use Rattle.hyd_spec_certificates.specs.declared.Problem.TheVariants.{Main}
use Rattle.hyd_spec_certificates.specs.declared.Side.TheVariants.{Lower}
use Rattle.hyd_spec.specs.Law.{LinearLaw, ForwardOnly, ReverseOnly, Capped}
use Rattle.hyd_spec.specs.PeriodLength.{pattern, step}
use Rattle.hyd_spec_certificates.specs.PeriodNetwork.{Grid}
use Rattle.hyd_spec_certificates.specs.Certificate.{IsCertificate, Passes}
use Rattle.hyd_spec_certificates.specs.Decided.{Watch, SomeMayReach, SomeMustReach, IsClockLength, EndsBy, WithoutRules}
use Rattle.hyd_spec_certificates.specs.Decided.{by_clock}
use Rattle.hyd_spec_certificates.specs.Valid.{by_clock as left_by_clock, IsValid}
use Rattle.hyd_spec_certificates.specs.Stops.{HasNoCertificate}
use Rattle.hyd_spec_reports.specs.Report.{AreStateLines, IsReport}
use Rattle.hyd_spec_certificates.specs.EndsOfPeriods.{by_clock as ended_by_clock}
use Rattle.hyd_spec_reports.specs.PromisesOfRunsAndChecks.{IsRun, none, more}
use Rattle.hyd_cases_of_runs.specs.Village.{village_with}
use Rattle.hyd_cases_of_runs.specs.VillagePeriods.{village_grid, grid_farm}
use Rattle.hyd_cases_of_runs.specs.ShallowVillage.{shallow, standing_0, standing_1, left, grid_0, grid_1, row_0, row_1}
use Rattle.hyd_cases_of_runs.specs.ShallowVillage.{lines_0}
use Rattle.hyd_cases_of_runs.specs.ShallowVillage.{lines_1, found_0, found_1, founds}
use Rattle.hyd_cases_of_runs.proofs.VillageGrids.{grid_at}
use Rattle.hyd_cases_of_runs.proofs.VillageCertificates.{certificates, before_lower}
use Rattle.hyd_cases_of_runs.proofs.VillageSeconds.{clock_length, no_rule, earliest_end, latest_end}
use Rattle.hyd_cases_of_runs.proofs.VillageRecords.{in_range, controls_decided, valid_at}
use Rattle.hyd_cases_of_runs.proofs.VillageReports.{junction_line, reservoir_line, tank_line, link_line}
use Rattle.hyd_cases_of_runs.proofs.VillageTight.{two_heads}

-- ---- the tank fills

clock_0 : IsClockLength (village_with shallow) 0 8
clock_0 = clock_length shallow 0 8 (step (omega arith) refl) (omega arith) (omega arith) (λ m later e. omega arith)

abbrev filled : Watch
filled = record { tank = 0; target = pos 20225000000000; rising = true }

may_fill : SomeMayReach (village_with shallow) grid_0 standing_0 row_0 1
may_fill = record {
  watch = filled;
  is_watched = (0, lit< tt, refl);
  tank = shallow.tank;
  is_tank = refl;
  reached = refl;
}

must_fill : SomeMustReach (village_with shallow) grid_0 standing_0 row_0 1
must_fill = record {
  watch = filled;
  is_watched = (0, lit< tt, refl);
  tank = shallow.tank;
  is_tank = refl;
  reached = refl;
}

first_ends : EndsBy (village_with shallow) grid_0 standing_0 row_0 (WithoutRules 1)
first_ends = by_clock
    (no_rule shallow grid_0 standing_0 row_0 1 (omega arith)
    (earliest_end shallow grid_0 standing_0 row_0 8 1 clock_0 (omega arith) refl (inr (omega arith, may_fill))) refl)
    (latest_end shallow grid_0 standing_0 row_0 8 1 clock_0 (omega arith) refl (inr (omega arith, must_fill)))

first_valid : IsValid (village_with shallow) standing_0 grid_0 row_0 standing_1
first_valid = valid_at shallow standing_0 grid_0 row_0 standing_1 refl (omega arith) refl refl
    (in_range shallow 0 (lit≤ tt) (lit≤ tt))
    (grid_at shallow standing_0 _ _ _ _ refl refl refl refl) (certificates shallow grid_0 row_0 _ refl refl refl refl
    refl) (left_by_clock first_ends)
    refl refl refl (controls_decided shallow _ refl) refl refl refl

first_state : AreStateLines (village_with shallow) grid_0 standing_0 row_0 (take 8 lines_0)
first_state = record {
  junctions = take 2 (drop 1 lines_0);
  reservoirs = take 1 (drop 3 lines_0);
  tanks = take 1 (drop 4 lines_0);
  links = take 3 (drop 5 lines_0);
  junctions_are = (
    junction_line shallow grid_0 standing_0 row_0 0 _ _ _ _ refl refl refl,
    (junction_line shallow grid_0 standing_0 row_0 1 _ _ _ _ refl refl refl, tt),
  );
  reservoirs_are = (reservoir_line shallow 0 _ _ refl, tt);
  tanks_are = (tank_line shallow grid_0 standing_0 row_0 _ _ _ _ refl refl refl refl, tt);
  links_are = (
    link_line shallow grid_0 standing_0 row_0 0 _ _ _ _ _ refl refl refl refl,
    (
      link_line shallow grid_0 standing_0 row_0 1 _ _ _ _ _ refl refl refl refl,
      (link_line shallow grid_0 standing_0 row_0 2 _ _ _ _ _ refl refl refl refl, tt),
    ),
  );
  lines_are = refl;
}

first_report : IsReport (village_with shallow) grid_0 standing_0 row_0 lines_0
first_report = record {
  state = take 8 lines_0;
  state_are = first_state;
  at_end = drop 8 lines_0;
  at_end_are = record {
    events = _;
    changes = _;
    brings = ended_by_clock first_ends;
    lines_are = refl;
  };
  lines_are = refl;
}

-- ---- the tank empties

clock_1 : IsClockLength (village_with shallow) 1 7
clock_1 = clock_length shallow 1 7 (pattern (omega arith) refl) (omega arith) (omega arith) (λ m later e. omega arith)

abbrev emptied : Watch
emptied = record { tank = 0; target = pos 20105000000000; rising = false }

may_empty : SomeMayReach (village_with shallow) grid_1 standing_1 row_1 5
may_empty = record {
  watch = emptied;
  is_watched = (0, lit< tt, refl);
  tank = shallow.tank;
  is_tank = refl;
  reached = refl;
}

must_empty : SomeMustReach (village_with shallow) grid_1 standing_1 row_1 5
must_empty = record {
  watch = emptied;
  is_watched = (0, lit< tt, refl);
  tank = shallow.tank;
  is_tank = refl;
  reached = refl;
}

second_ends : EndsBy (village_with shallow) grid_1 standing_1 row_1 (WithoutRules 5)
second_ends = by_clock
    (no_rule shallow grid_1 standing_1 row_1 5 (omega arith)
    (earliest_end shallow grid_1 standing_1 row_1 7 5 clock_1 (omega arith) refl (inr (omega arith, may_empty))) refl)
    (latest_end shallow grid_1 standing_1 row_1 7 5 clock_1 (omega arith) refl (inr (omega arith, must_empty)))

second_valid : IsValid (village_with shallow) standing_1 grid_1 row_1 left
second_valid = valid_at shallow standing_1 grid_1 row_1 left refl (omega arith) refl refl
    (in_range shallow 1 (lit≤ tt) (lit≤ tt))
    (grid_at shallow standing_1 _ _ _ _ refl refl refl refl) (certificates shallow grid_1 row_1 _ refl refl refl refl
    refl) (left_by_clock second_ends)
    refl refl refl (controls_decided shallow _ refl) refl refl refl

second_report : IsReport (village_with shallow) grid_1 standing_1 row_1 lines_1
second_report = record {
  state = [];
  state_are = refl;
  at_end = lines_1;
  at_end_are = record {
    events = _;
    changes = _;
    brings = ended_by_clock second_ends;
    lines_are = refl;
  };
  lines_are = refl;
}

pub is_run : IsRun (village_with shallow) founds left
is_run =
    more {found = found_0} (record { valid = first_valid; report = first_report })
    (more {found = found_1} (record { valid = second_valid; report = second_report }) none)

-- ---- the farm has no source

-- nothing leaves the empty tank
abbrev last_grid : Grid
last_grid = village_grid (pos 8000000000) (ForwardOnly (Capped (pos 10000000000) LinearLaw)) (ReverseOnly LinearLaw)
    (record { lo = pos 620105000000000; hi = pos 620105000000000 })

no_net_inflow : (x y : ℤ) → Passes last_grid Main Lower (x ∷ y ∷ []) 1 grid_farm → ⊥
no_net_inflow x y passes = omega (arith, ints, clamps, passes)

pub has_none : HasNoCertificate (village_with shallow) left Main Lower
has_none = record {
  in_range = in_range shallow 6 (lit≤ tt) (lit≤ tt);
  is_problem = tt;
  grid = last_grid;
  is_grid = grid_at shallow left _ _ _ _ refl refl refl refl;
  earlier = before_lower shallow last_grid (pos (10 ^ 18) ∷ (pos (10 ^ 18) ∷ [])) refl;
  none = λ u is.
      let heads = two_heads u is.one_each in
      let two : IsCertificate last_grid Main Lower (heads.first ∷ heads.second ∷ []) =
      subst (IsCertificate last_grid Main Lower) heads.is is in
      no_net_inflow heads.first heads.second (two.passes 1 grid_farm refl);
}
