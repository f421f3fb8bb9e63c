use Rattle.std.proofs.Common.{refl}
use Rattle.hyd_cases_of_definitions.proofs.curves.at_tanks.Goals as goal

pub returns-clause-pump_low : goal.returns-clause-pump_low
returns-clause-pump_low c = λ project curves junctions reservoirs tanks.
    rw (curves, junctions, reservoirs, tanks.tanks_are, tanks.first_is, tanks.second_is) refl

pub returns-clause-pump_high : goal.returns-clause-pump_high
returns-clause-pump_high c = λ project curves junctions reservoirs tanks.
    rw (curves, junctions, reservoirs, tanks.tanks_are, tanks.first_is, tanks.second_is) refl

pub returns-clause-valve_low : goal.returns-clause-valve_low
returns-clause-valve_low c = λ project curves junctions reservoirs tanks.
    rw (curves, junctions, reservoirs, tanks.tanks_are, tanks.first_is, tanks.second_is) refl

pub returns-clause-valve_high : goal.returns-clause-valve_high
returns-clause-valve_high c = λ project curves junctions reservoirs tanks.
    rw (curves, junctions, reservoirs, tanks.tanks_are, tanks.first_is, tanks.second_is) refl
