use Rattle.std.proofs.Common.{refl}
use Rattle.hyd_cases_of_definitions.proofs.each_kind_of_link.laws.Goals as goal

pub returns-clause-between : goal.returns-clause-between
returns-clause-between c = λ project parts shutoff head pattern unit junctions reservoirs is.
    rw (junctions, reservoirs, unit, is) refl

pub returns-clause-full : goal.returns-clause-full
returns-clause-full c = λ project parts shutoff head pattern tank unit junctions reservoirs is tanks stops.
    rw (junctions, reservoirs, unit, is, tanks, stops) refl

pub returns-clause-overflowing : goal.returns-clause-overflowing
returns-clause-overflowing c = λ project parts shutoff head pattern tank unit junctions reservoirs is tanks spills.
    rw (junctions, reservoirs, unit, is, tanks, spills) refl

pub returns-clause-empty : goal.returns-clause-empty
returns-clause-empty c = λ project parts shutoff head pattern unit junctions reservoirs is.
    rw (junctions, reservoirs, unit, is) refl
