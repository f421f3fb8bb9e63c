-- Villages whose run stops at its start.
use Rattle.std.proofs.Common.{ℕ, ◌^◌, ◌≡◌, pos, true, [], ◌∷◌, inl, inr, refl, subst, arith, lit≤, lit<}
use Rattle.hyd_spec_certificates.specs.declared.Problem.TheVariants.{Main}
use Rattle.hyd_spec_certificates.specs.declared.Side.TheVariants.{Upper, Lower}
use Rattle.hyd_spec.specs.Law.{LinearLaw, Shut, Capped}
use Rattle.hyd_spec.specs.PeriodLength.{step}
use Rattle.hyd_spec_certificates.specs.PeriodNetwork.{Grid}
use Rattle.hyd_spec_certificates.specs.Certificate.{IsCertificate, none}
use Rattle.hyd_spec_certificates.specs.RecordAndStanding.{initial_standing}
use Rattle.hyd_spec_certificates.specs.Decided.{IsTruthBetween, readings_below, readings_above, Watch, IsClockLength}
use Rattle.hyd_spec_certificates.specs.Decided.{RulesMatter, IsFirstMatter, IsOpenRule, EndsBy, WithoutRules}
use Rattle.hyd_spec_certificates.specs.Decided.{EventIsOpen, rule_is_open, by_clock, event_is_open}
use Rattle.hyd_spec_certificates.specs.Valid.{IsGridAt, levels_next, by_clock as left_by_clock}
use Rattle.hyd_spec_certificates.specs.Stops.{IsFirstDemand, HasNoCertificate, SpendsRounds, IsTightRow, LeavesRuleOpen}
use Rattle.hyd_spec_certificates.specs.Stops.{LeavesEventOpen, LeavesTankOpen, LeavesControlOpen, EndsAtLevels}
use Rattle.hyd_spec_certificates.specs.declared.Truth.{Truth}
use Rattle.hyd_spec_certificates.specs.declared.Truth.TheVariants.{True, False, Open}
use Rattle.hyd_cases_of_runs.specs.Village.{Choice, usual, village, village_with, mill, farm, tower, refill_rule}
use Rattle.hyd_cases_of_runs.specs.VillageRun.{standing_0, grid_0, row_0}
use Rattle.hyd_cases_of_runs.specs.VillagePeriods.{grid_mill, grid_farm}
use Rattle.hyd_cases_of_runs.specs.VillageStops.{thirsty, dry, unsure_rule, open_rule, unsure_event, unsure_control}
use Rattle.hyd_cases_of_runs.specs.VillageStops.{unsure_tank, last_level}
use Rattle.hyd_cases_of_runs.proofs.VillageGrids.{junction_at, grid_at}
use Rattle.hyd_cases_of_runs.proofs.VillageCertificates.{no_certificate, before_lower}
use Rattle.hyd_cases_of_runs.proofs.VillageRecords.{in_range}
use Rattle.hyd_cases_of_runs.proofs.VillageSeconds.{clock_length, matter, matter_test, no_rule, earliest_end}
use Rattle.hyd_cases_of_runs.proofs.VillageSeconds.{latest_end}
use Rattle.hyd_cases_of_runs.proofs.VillageTight.{first_tight, two_heads}
use Rattle.hyd_lemmas.proofs.BooleanTests.{from}

-- ---- demands and vectors

pub demand_stops : IsFirstDemand thirsty 0 0 (pos 1200000000000000)
demand_stops = record {
  junction = _;
  is_junction = refl;
  is_demand = refl;
  out_of_range = lit< tt;
  first = λ earlier before below at. absurd (omega (arith, below));
}

pub rounds_stop : SpendsRounds village standing_0 Main Upper 0
rounds_stop = record {
  in_range = in_range usual 0 (lit≤ tt) (lit≤ tt);
  is_problem = tt;
  grid = grid_0;
  is_grid = grid_at usual standing_0 _ _ _ _ refl refl refl refl;
  earlier = λ earlier other is lt. absurd (omega (arith, lt));
  reached = _;
  by_rounds = none;
  not_one = no_certificate grid_0 Main Upper _ 0 (grid_mill (pos 8000000000)) refl refl;
}

-- the grid where the valve to the farm is closed
abbrev dry_grid : Grid
dry_grid = record grid_0 {
  links =
      (record { from = 2; to = 0; law = LinearLaw })
      ∷ (record { from = 0; to = 3; law = Capped (pos 10000000000) LinearLaw })
      ∷ (record { from = 3; to = 1; law = Shut })
      ∷ [];
}

dry_is_grid : IsGridAt (village_with dry) (initial_standing (village_with dry)) dry_grid
dry_is_grid = record {
  junctions = (
    junction_at dry 0 mill (pos 8000000000) refl refl,
    (
      junction_at dry 0 farm (pos 2000000000) refl refl,
      tt,
    ),
  );
  reservoirs = refl;
  tank_heads = refl;
  links_are = refl;
}

pub source_stops : HasNoCertificate (village_with dry) (initial_standing (village_with dry)) Main Lower
source_stops = record {
  in_range = in_range dry 0 (lit≤ tt) (lit≤ tt);
  is_problem = tt;
  grid = dry_grid;
  is_grid = dry_is_grid;
  earlier = before_lower dry dry_grid (pos (10 ^ 18) ∷ (pos (10 ^ 18) ∷ [])) refl;
  none = λ u is.
      let heads = two_heads u is.one_each in
      no_certificate dry_grid Main Lower (heads.first ∷ heads.second ∷ []) 1 grid_farm refl refl
      (subst (IsCertificate dry_grid Main Lower) heads.is is);
}

-- ---- matters

-- The vectors don't depend on the control, the rule or the tank's maximum.
tight_row : (choice : Choice) → IsGridAt (village_with choice) (initial_standing (village_with choice)) grid_0
    → IsTightRow (village_with choice) (initial_standing (village_with choice)) grid_0 row_0
tight_row choice is = record {
  in_range = in_range choice 0 (lit≤ tt) (lit≤ tt);
  is_grid = is;
  one_each = refl;
  each = first_tight;
}

-- eight seconds by the clock
clock : (choice : Choice) → IsClockLength (village_with choice) 0 8
clock choice = clock_length choice 0 8 (step (omega arith) refl) (omega arith) (omega arith) (λ m later e. omega arith)

-- the rule
unsure_rule_matters : RulesMatter (village_with unsure_rule) grid_0 standing_0 row_0 2
unsure_rule_matters = record { tried = record { later = omega arith; is_multiple = refl }; matters = inl refl }

pub unsure_rule_first : IsFirstMatter (village_with unsure_rule) grid_0 standing_0 row_0 2
unsure_rule_first = record {
  not_last = λ is. omega (arith, is);
  earliest = 8;
  is_earliest = earliest_end unsure_rule grid_0 standing_0 row_0 8 8 (clock unsure_rule) (omega arith) refl
      (inl (clock unsure_rule));
  in_time = omega arith;
  first = record {
    holds = unsure_rule_matters;
    least = λ s is. from (matter unsure_rule grid_0 standing_0 row_0) 2 refl s
        (matter_test unsure_rule grid_0 standing_0 row_0 s is);
  };
}

pub rule_is : IsOpenRule (village_with unsure_rule) grid_0 standing_0 row_0 2 open_rule
rule_is = record {
  first_rule = refl;
  rule = _;
  is_rule = refl;
  clause_is = record {
    first_clause = refl;
    each = _;
    is_clause = refl;
    lo_is = refl;
    hi_is = refl;
  };
}

-- the same between the two readings alone, and decided a second earlier and a second later
abbrev pub truth_after : ℕ → Truth → Type 0
truth_after seconds truth =
    IsTruthBetween (village_with unsure_rule) seconds (readings_below (village_with unsure_rule) grid_0 standing_0
    row_0 seconds)
    (readings_above (village_with unsure_rule) grid_0 standing_0 row_0 seconds) (refill_rule unsure_rule.clauses) truth

pub rule_truth_open : truth_after 2 (Open 1 (pos 20014736562746) (pos 20014736577608))
rule_truth_open = (refl, record { first_clause = refl; each = _; is_clause = refl; lo_is = refl; hi_is = refl })

pub rule_truth_before : truth_after 1 True
rule_truth_before = refl

pub rule_truth_later : truth_after 3 False
rule_truth_later = refl

pub rule_stops : LeavesRuleOpen (village_with unsure_rule) standing_0 open_rule
rule_stops = record {
  grid = grid_0;
  row = row_0;
  tight = tight_row unsure_rule (grid_at unsure_rule standing_0 _ _ _ _ refl refl refl refl);
  is_open = rule_is_open unsure_rule_first rule_is;
}

-- the event
abbrev filled : Watch
filled = record { tank = 0; target = pos 20036841430000; rising = true }

pub event_ends : EndsBy (village_with unsure_event) grid_0 standing_0 row_0 (EventIsOpen 5 6)
event_ends = event_is_open
    (no_rule unsure_event grid_0 standing_0 row_0 5 (omega arith) (earliest_end unsure_event grid_0 standing_0 row_0 8
    5 (clock unsure_event) (omega arith) refl
    (inr (
      omega arith,
      record {
        watch = filled;
        is_watched = (2, lit< tt, refl);
        tank = tower;
        is_tank = refl;
        reached = refl;
      },
    ))) refl)
    (latest_end unsure_event grid_0 standing_0 row_0 8 6 (clock unsure_event) (omega arith) refl
    (inr (
      omega arith,
      record {
        watch = filled;
        is_watched = (2, lit< tt, refl);
        tank = tower;
        is_tank = refl;
        reached = refl;
      },
    )))
    (λ same. omega (arith, same))

pub event_stops : LeavesEventOpen (village_with unsure_event) standing_0 5 6
event_stops = record {
  grid = grid_0;
  row = row_0;
  tight = tight_row unsure_event (grid_at unsure_event standing_0 _ _ _ _ refl refl refl refl);
  is_open = event_ends;
}

-- the end of the period, by the clock
ends_at : (choice : Choice) → IsGridAt (village_with choice) (initial_standing (village_with choice)) grid_0
    → EndsBy (village_with choice) grid_0 (initial_standing (village_with choice)) row_0 (WithoutRules 8)
    → last_level ∷ [] ≡ levels_next (village_with choice) grid_0 (initial_standing (village_with choice)) row_0 8
    → EndsAtLevels (village_with choice) (initial_standing (village_with choice)) (last_level ∷ [])
ends_at choice is ends levels = record {
  grid = grid_0;
  row = row_0;
  tight = tight_row choice is;
  seconds = 8;
  links = _;
  ends = left_by_clock ends;
  levels_are = levels;
}

pub control_ends : EndsBy (village_with unsure_control) grid_0 standing_0 row_0 (WithoutRules 8)
control_ends = by_clock
    (no_rule unsure_control grid_0 standing_0 row_0 8 (omega arith) (earliest_end unsure_control grid_0 standing_0
    row_0 8 8 (clock unsure_control) (omega arith) refl (inl (clock unsure_control))) refl)
    (latest_end unsure_control grid_0 standing_0 row_0 8 8 (clock unsure_control) (omega arith) refl
    (inl (clock unsure_control)))

pub control_stops : LeavesControlOpen (village_with unsure_control) standing_0 0 last_level
control_stops = record {
  levels = last_level ∷ [];
  at_levels = ends_at unsure_control (grid_at unsure_control standing_0 _ _ _ _ refl refl refl refl) control_ends refl;
  tanks_decided = refl;
  first = refl;
  tank = 0;
  above = true;
  ticks = pos 20058946280000;
  control = _;
  is_control = refl;
  is_level = refl;
  level_is = refl;
}

pub tank_ends : EndsBy (village_with unsure_tank) grid_0 standing_0 row_0 (WithoutRules 8)
tank_ends = by_clock
    (no_rule unsure_tank grid_0 standing_0 row_0 8 (omega arith) (earliest_end unsure_tank grid_0 standing_0 row_0 8 8
    (clock unsure_tank) (omega arith) refl (inl (clock unsure_tank))) refl)
    (latest_end unsure_tank grid_0 standing_0 row_0 8 8 (clock unsure_tank) (omega arith) refl
    (inl (clock unsure_tank)))

pub tank_stops : LeavesTankOpen (village_with unsure_tank) standing_0 0 last_level
tank_stops = record {
  levels = last_level ∷ [];
  at_levels = ends_at unsure_tank (grid_at unsure_tank standing_0 _ _ _ _ refl refl refl refl) tank_ends refl;
  first = refl;
  level_is = refl;
}
