use Rattle.std.proofs.Common.{refl}
use Rattle.hyd_cases_of_definitions.proofs.statuses_events_tank_laws_and_clauses.tank_laws.Goals as goal

pub returns-clause-out_of_full_low : goal.returns-clause-out_of_full_low
returns-clause-out_of_full_low c = λ project junctions reservoirs tanks. rw (
  junctions,
  reservoirs,
  tanks.tanks_are,
  tanks.first_is,
) refl

pub returns-clause-out_of_full_high : goal.returns-clause-out_of_full_high
returns-clause-out_of_full_high c = λ project junctions reservoirs tanks. rw (
  junctions,
  reservoirs,
  tanks.tanks_are,
  tanks.first_is,
) refl

pub returns-clause-into_full_low : goal.returns-clause-into_full_low
returns-clause-into_full_low c = λ project junctions reservoirs tanks. rw (
  junctions,
  reservoirs,
  tanks.tanks_are,
  tanks.first_is,
) refl

pub returns-clause-into_full_high : goal.returns-clause-into_full_high
returns-clause-into_full_high c = λ project junctions reservoirs tanks. rw (
  junctions,
  reservoirs,
  tanks.tanks_are,
  tanks.first_is,
) refl

pub returns-clause-out_of_empty_low : goal.returns-clause-out_of_empty_low
returns-clause-out_of_empty_low c = λ project junctions reservoirs. rw (junctions, reservoirs) refl

pub returns-clause-out_of_empty_high : goal.returns-clause-out_of_empty_high
returns-clause-out_of_empty_high c = λ project junctions reservoirs. rw (junctions, reservoirs) refl

pub returns-clause-into_empty_low : goal.returns-clause-into_empty_low
returns-clause-into_empty_low c = λ project junctions reservoirs. rw (junctions, reservoirs) refl

pub returns-clause-into_empty_high : goal.returns-clause-into_empty_high
returns-clause-into_empty_high c = λ project junctions reservoirs. rw (junctions, reservoirs) refl

pub returns-clause-full_to_full_low : goal.returns-clause-full_to_full_low
returns-clause-full_to_full_low c = λ project junctions reservoirs tanks. rw (
  junctions,
  reservoirs,
  tanks.tanks_are,
  tanks.first_is,
  tanks.second_is,
) refl

pub returns-clause-full_to_full_high : goal.returns-clause-full_to_full_high
returns-clause-full_to_full_high c = λ project junctions reservoirs tanks. rw (
  junctions,
  reservoirs,
  tanks.tanks_are,
  tanks.first_is,
  tanks.second_is,
) refl

pub returns-clause-empty_to_full_low : goal.returns-clause-empty_to_full_low
returns-clause-empty_to_full_low c = λ project junctions reservoirs tanks. rw (
  junctions,
  reservoirs,
  tanks.tanks_are,
  tanks.second_is,
) refl

pub returns-clause-empty_to_full_high : goal.returns-clause-empty_to_full_high
returns-clause-empty_to_full_high c = λ project junctions reservoirs tanks. rw (
  junctions,
  reservoirs,
  tanks.tanks_are,
  tanks.second_is,
) refl

pub returns-clause-full_to_empty_low : goal.returns-clause-full_to_empty_low
returns-clause-full_to_empty_low c = λ project junctions reservoirs tanks. rw (
  junctions,
  reservoirs,
  tanks.tanks_are,
  tanks.first_is,
) refl

pub returns-clause-full_to_empty_high : goal.returns-clause-full_to_empty_high
returns-clause-full_to_empty_high c = λ project junctions reservoirs tanks. rw (
  junctions,
  reservoirs,
  tanks.tanks_are,
  tanks.first_is,
) refl

pub returns-clause-between_low : goal.returns-clause-between_low
returns-clause-between_low c = λ project junctions reservoirs. rw (junctions, reservoirs) refl

pub returns-clause-between_high : goal.returns-clause-between_high
returns-clause-between_high c = λ project junctions reservoirs. rw (junctions, reservoirs) refl

pub returns-clause-into_overflowing_low : goal.returns-clause-into_overflowing_low
returns-clause-into_overflowing_low c = λ project junctions reservoirs tanks. rw (
  junctions,
  reservoirs,
  tanks.tanks_are,
  tanks.first_is,
) refl

pub returns-clause-into_overflowing_high : goal.returns-clause-into_overflowing_high
returns-clause-into_overflowing_high c = λ project junctions reservoirs tanks. rw (
  junctions,
  reservoirs,
  tanks.tanks_are,
  tanks.first_is,
) refl

pub returns-clause-overflowing_to_full_low : goal.returns-clause-overflowing_to_full_low
returns-clause-overflowing_to_full_low c = λ project junctions reservoirs tanks. rw (
  junctions,
  reservoirs,
  tanks.tanks_are,
  tanks.first_is,
  tanks.second_is,
) refl
