-- How the periods of the village end.
use Rattle.std.proofs.Common.{pos, true, inl, inr, refl, arith, lit<}
use Rattle.hyd_spec.specs.PeriodLength.{duration, step}
use Rattle.hyd_spec_certificates.specs.Decided.{Watch, SomeMayReach, SomeMustReach, IsClockLength, RulesMatter}
use Rattle.hyd_spec_certificates.specs.Decided.{IsFirstMatter, EndsBy, ByRules, WithoutRules, by_rules, by_clock}
use Rattle.hyd_cases_of_runs.specs.Village.{village, usual, tower}
use Rattle.hyd_cases_of_runs.specs.VillageRun.{standing_0, standing_1, standing_2, standing_3, grid_0, grid_1, grid_2}
use Rattle.hyd_cases_of_runs.specs.VillageRun.{grid_3, row_0, row_1, row_2, row_3}
use Rattle.hyd_cases_of_runs.proofs.VillageSeconds.{clock_length, matter, matter_test, no_rule, earliest_end}
use Rattle.hyd_cases_of_runs.proofs.VillageSeconds.{latest_end}
use Rattle.hyd_lemmas.proofs.BooleanTests.{from}

-- the clock allows eight seconds from 0 and from 8 on, five from 11, two from 14
clock_0 : IsClockLength village 0 8
clock_0 = clock_length usual 0 8 (step (omega arith) refl) (omega arith) (omega arith) (λ m later e. omega arith)

clock_1 : IsClockLength village 8 8
clock_1 = clock_length usual 8 8 (step (omega arith) refl) (omega arith) (omega arith) (λ m later e. omega arith)

clock_2 : IsClockLength village 11 5
clock_2 = clock_length usual 11 5 (duration (omega arith) refl) (omega arith) (omega arith) (λ m later e. omega arith)

clock_3 : IsClockLength village 14 2
clock_3 = clock_length usual 14 2 (duration (omega arith) refl) (omega arith) (omega arith) (λ m later e. omega arith)

-- by the clock
pub first_ends : EndsBy village grid_0 standing_0 row_0 (WithoutRules 8)
first_ends = by_clock
    (no_rule usual grid_0 standing_0 row_0 8 (omega arith) (earliest_end usual grid_0 standing_0 row_0 8 8 clock_0
    (omega arith) refl (inl clock_0)) refl)
    (latest_end usual grid_0 standing_0 row_0 8 8 clock_0 (omega arith) refl (inl clock_0))

-- by the control, which is the third that is watched
abbrev filled : Watch
filled = record { tank = 0; target = pos 20080000000000; rising = true }

may_be_filled : SomeMayReach village grid_1 standing_1 row_1 3
may_be_filled = record { watch = filled; is_watched = (2, lit< tt, refl); tank = tower; is_tank = refl; reached = refl }

must_be_filled : SomeMustReach village grid_1 standing_1 row_1 3
must_be_filled = record {
  watch = filled;
  is_watched = (2, lit< tt, refl);
  tank = tower;
  is_tank = refl;
  reached = refl;
}

pub second_ends : EndsBy village grid_1 standing_1 row_1 (WithoutRules 3)
second_ends = by_clock
    (no_rule usual grid_1 standing_1 row_1 3 (omega arith) (earliest_end usual grid_1 standing_1 row_1 8 3 clock_1
    (omega arith) refl (inr (omega arith, may_be_filled))) refl)
    (latest_end usual grid_1 standing_1 row_1 8 3 clock_1 (omega arith) refl (inr (omega arith, must_be_filled)))

-- by the rule, before the clock ends the period
rule_matters : RulesMatter village grid_2 standing_2 row_2 3
rule_matters = record {
  tried = record { later = omega arith; is_multiple = refl };
  matters = inr (λ none. absurd (cc));
}

rule_is_first : IsFirstMatter village grid_2 standing_2 row_2 3
rule_is_first = record {
  not_last = λ is. omega (arith, is);
  earliest = 5;
  is_earliest = earliest_end usual grid_2 standing_2 row_2 5 5 clock_2 (omega arith) refl (inl clock_2);
  in_time = omega arith;
  first = record {
    holds = rule_matters;
    least = λ s is. from (matter usual grid_2 standing_2 row_2) 3 refl s
        (matter_test usual grid_2 standing_2 row_2 s is);
  };
}

pub third_ends : EndsBy village grid_2 standing_2 row_2 (ByRules 3)
third_ends = by_rules rule_is_first refl

-- by the clock, at the end of the run
pub fourth_ends : EndsBy village grid_3 standing_3 row_3 (WithoutRules 2)
fourth_ends = by_clock
    (no_rule usual grid_3 standing_3 row_3 2 (omega arith) (earliest_end usual grid_3 standing_3 row_3 2 2 clock_3
    (omega arith) refl (inl clock_3)) refl)
    (latest_end usual grid_3 standing_3 row_3 2 2 clock_3 (omega arith) refl (inl clock_3))
