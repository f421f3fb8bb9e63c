-- Records of the village that are refused.
use Rattle.std.proofs.Common.{◌≡◌, ◌≢◌, ℕ, zero, suc, ◌<◌, ◌≤◌, ◌^◌, pos, List, refl, arith, lit≤, lit<}
use Rattle.std.specs.Prelude.{None}
use Rattle.std.proofs.lemmas.Int.{ints}
use Rattle.hyd_spec.specs.ProgramTypes.{Project, LinkState}
use Rattle.hyd_spec.specs.Assignment.{head_at}
use Rattle.hyd_spec_certificates.specs.declared.Problem.TheVariants.{Main}
use Rattle.hyd_spec_certificates.specs.declared.Side.TheVariants.{Upper}
use Rattle.hyd_spec_certificates.specs.PeriodNetwork.{Grid}
use Rattle.hyd_spec_certificates.specs.Certificate.{IsInBox, FailsFirst, outside, fails}
use Rattle.hyd_spec_certificates.specs.RecordAndStanding.{Record, Standing, initial_standing}
use Rattle.hyd_spec_certificates.specs.Decided.{End, EndsBy, by_rules, rule_is_open, by_clock, event_is_open}
use Rattle.hyd_spec_certificates.specs.Decided.{RuleIsOpen, EventIsOpen, ByRules, WithoutRules}
use Rattle.hyd_spec_certificates.specs.Valid.{DemandsAreInRange, IsGridAt, LeavesLinks, by_rules as left_by_rules}
use Rattle.hyd_spec_certificates.specs.Valid.{by_clock as left_by_clock}
use Rattle.hyd_spec_certificates.specs.declared.CertRefused.TheVariants.{Place, Demand, Fails, Open as MatterOpen}
use Rattle.hyd_spec_certificates.specs.declared.CertRefused.TheVariants.{Length}
use Rattle.hyd_spec_certificates.specs.declared.CertRefused.TheVariants.{After}
use Rattle.hyd_spec_certificates.specs.RefusedRecords.{IsRefused, HasItsGrid, LeavesOpen, rule, event, tank, control}
use Rattle.hyd_spec_certificates.specs.RefusedRecords.{at_end}
use Rattle.hyd_cases_of_runs.specs.Village.{Choice, usual, village, village_with, mill}
use Rattle.hyd_cases_of_runs.specs.VillageRun.{standing_0, standing_1, standing_4, left, grid_0, grid_4, row_0, row_1}
use Rattle.hyd_cases_of_runs.specs.VillageRun.{row_4}
use Rattle.hyd_cases_of_runs.specs.VillagePeriods.{grid_mill}
use Rattle.hyd_cases_of_runs.specs.VillageStops.{thirsty, unsure_rule, open_rule, unsure_event, unsure_control}
use Rattle.hyd_cases_of_runs.specs.VillageStops.{unsure_tank}
use Rattle.hyd_cases_of_runs.specs.VillageRefusals.{low_row, far_row}
use Rattle.hyd_cases_of_runs.proofs.VillageGrids.{grid_at}
use Rattle.hyd_cases_of_runs.proofs.VillageCertificates.{in_box, all_in_box, passes_test, certificates}
use Rattle.hyd_cases_of_runs.proofs.VillageRecords.{in_range}
use Rattle.hyd_cases_of_runs.proofs.VillageStops.{unsure_rule_first, rule_is, event_ends, tank_ends, control_ends}

-- ---- place and demands

pub other_number : IsRefused village standing_0 (record row_0 { number = 1 }) (Place 0)
other_number = record { period_is = refl; refused_by = (refl, λ due. let e = due.number in absurd (omega (arith, e))) }

pub other_time : IsRefused village standing_1 (record row_1 { time = 9 }) (Place 1)
other_time = record { period_is = refl; refused_by = (refl, λ due. let e = due.time in absurd (omega (arith, e))) }

pub too_thirsty : IsRefused thirsty (initial_standing thirsty) row_0 (Demand 0)
too_thirsty = record {
  period_is = refl;
  refused_by = (
    record { unfinished = refl; due = record { number = refl; time = refl } },
    λ within.
        let l : 1200000000000000 ≤ 10 ^ 15 = within 0 mill (lit< tt) in absurd (omega (arith, l)),
  );
}

-- ---- vectors

has_grid : (choice : Choice) (row : Record) → row.number ≡ 0 → row.time ≡ 0 → IsGridAt
    (village_with choice) standing_0 grid_0
    → DemandsAreInRange (village_with choice) 0 → HasItsGrid (village_with choice) standing_0 grid_0 row
has_grid choice row number time is within = record {
  in_place = record { unfinished = refl; due = record { number = number; time = time } };
  in_range = within;
  is_grid = is;
}

low_fails : FailsFirst None grid_0 Main Upper low_row.main.upper 0
low_fails = fails (grid_mill (pos 8000000000)) (all_in_box low_row.main.upper refl) refl
    (λ passed. let t = passes_test grid_0 Main Upper low_row.main.upper 0 (grid_mill (pos 8000000000)) passed in
    absurd (cc))
    (λ k before below at. absurd (omega (arith, below)))

pub low_refused : IsRefused village standing_0 low_row (Fails 0 Main Upper 0)
low_refused = record {
  period_is = refl;
  refused_by = (
    grid_0,
    (
      has_grid usual low_row refl refl (grid_at usual standing_0 _ _ _ _ refl refl refl refl)
          (in_range usual 0 (lit≤ tt) (lit≤ tt)),
      record { is_problem = tt; earlier = λ before other is lt. absurd (omega (arith, lt)); fails = low_fails },
    ),
  );
}

far_fails : FailsFirst None grid_0 Main Upper far_row.main.upper 1
far_fails = outside (lit< tt) (λ is. let l = is.below_ceiling in absurd (omega (arith, ints, l))) before
  where
    before : (k : ℕ) → k < 1 → IsInBox (head_at far_row.main.upper k)
    before zero lt = in_box (pos 999999997757518) refl
    before (suc k) lt = absurd (omega (arith, lt))

pub far_refused : IsRefused village standing_0 far_row (Fails 0 Main Upper 1)
far_refused = record {
  period_is = refl;
  refused_by = (
    grid_0,
    (
      has_grid usual far_row refl refl (grid_at usual standing_0 _ _ _ _ refl refl refl refl)
          (in_range usual 0 (lit≤ tt) (lit≤ tt)),
      record { is_problem = tt; earlier = λ before other is lt. absurd (omega (arith, lt)); fails = far_fails },
    ),
  );
}

-- ---- matters

left_open : (choice : Choice) → IsGridAt (village_with choice) standing_0 grid_0 → LeavesOpen
    (village_with choice) grid_0 standing_0 row_0
    → IsRefused (village_with choice) standing_0 row_0 (MatterOpen 0)
left_open choice is matter = record {
  period_is = refl;
  refused_by = (
    grid_0,
    (
      record {
        has_grid = has_grid choice row_0 refl refl is (in_range choice 0 (lit≤ tt) (lit≤ tt));
        certificates = certificates choice grid_0 row_0 _ refl refl refl refl refl;
      },
      matter,
    ),
  );
}

pub rule_open : IsRefused (village_with unsure_rule) standing_0 row_0 (MatterOpen 0)
rule_open = left_open unsure_rule (grid_at unsure_rule standing_0 _ _ _ _ refl refl refl refl)
    (rule open_rule (rule_is_open unsure_rule_first rule_is))

pub event_open : IsRefused (village_with unsure_event) standing_0 row_0 (MatterOpen 0)
event_open = left_open unsure_event (grid_at unsure_event standing_0 _ _ _ _ refl refl refl refl) (event 5 6 event_ends)

pub tank_open : IsRefused (village_with unsure_tank) standing_0 row_0 (MatterOpen 0)
tank_open = left_open unsure_tank (grid_at unsure_tank standing_0 _ _ _ _ refl refl refl refl)
    (tank 8 _ 0 (left_by_clock tank_ends) refl)

pub control_open : IsRefused (village_with unsure_control) standing_0 row_0 (MatterOpen 0)
control_open = left_open unsure_control (grid_at unsure_control standing_0 _ _ _ _ refl refl refl refl)
    (control 8 _ 0 (left_by_clock control_ends) refl)

-- ---- the end of the run

not_last : (project : Project) (grid : Grid) (standing : Standing) (row : Record) (e : End)
    → EndsBy project grid standing row e
    → standing.time ≢ project.times.duration
not_last project grid standing row _ (by_rules m f) = m.not_last
not_last project grid standing row _ (rule_is_open m is) = m.not_last
not_last project grid standing row _ (by_clock n l) = n.not_last
not_last project grid standing row _ (event_is_open n l ne) = n.not_last

leaves_not_last : (project : Project) (grid : Grid) (standing : Standing) (row : Record) (seconds : ℕ)
    (links : List LinkState)
    → LeavesLinks project grid standing row seconds links → standing.time ≢ project.times.duration
leaves_not_last project grid standing row seconds _ (left_by_rules e) = not_last project grid standing row
    (ByRules seconds) e
leaves_not_last project grid standing row seconds _ (left_by_clock e) = not_last project grid standing row
    (WithoutRules seconds) e

no_matters : (project : Project) (grid : Grid) (standing : Standing) (row : Record)
    → standing.time ≡ project.times.duration
    → LeavesOpen project grid standing row → ⊥
no_matters project grid standing row last (rule open_rule e) = not_last project grid standing row
    (RuleIsOpen open_rule) e last
no_matters project grid standing row last (event earliest latest e) = not_last project grid standing row
    (EventIsOpen earliest latest) e last
no_matters project grid standing row last (tank seconds links number leaves is) =
    leaves_not_last project grid standing row seconds links leaves last
no_matters project grid standing row last (control seconds links number leaves is) =
    leaves_not_last project grid standing row seconds links leaves last

pub other_length : IsRefused village standing_4 (record row_4 { length = 5 }) (Length 4)
other_length = record {
  period_is = refl;
  refused_by = (
    grid_4,
    (
      record {
        has_grid = record {
          in_place = record { unfinished = refl; due = record { number = refl; time = refl } };
          in_range = in_range usual 16 (lit≤ tt) (lit≤ tt);
          is_grid = grid_at usual standing_4 _ _ _ _ refl refl refl refl;
        };
        certificates = certificates usual grid_4 (record row_4 { length = 5 }) _ refl refl refl refl refl;
      },
      (
        no_matters village grid_4 standing_4 (record row_4 { length = 5 }) refl,
        at_end refl (λ is. absurd (omega (arith, is))),
      ),
    ),
  );
}

pub after_end : IsRefused village left (record row_4 { number = 5 }) (After 5)
after_end = record { period_is = refl; refused_by = refl }
