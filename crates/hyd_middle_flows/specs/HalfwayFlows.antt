-- Flows halfway at a moment's heads, and a moment with other flows.
use Rattle.std.specs.Prelude.{ℤ, List}
use Rattle.hyd_spec.specs.ProgramTypes.{Project, LinkState}
use Rattle.hyd_spec.specs.declared.TankState.{TankState}
use Rattle.hyd_spec_certificates.specs.PeriodNetwork.{GridLink, GridJunction}
use Rattle.hyd_spec_witnesses.specs.DemandsAtScale.{demand_low_at, demand_high_at, IsDemandInRange}
use Rattle.hyd_spec_witnesses.specs.EnclosingFunctionsAtScale.{low_at, high_at, IsInRange}
use Rattle.hyd_spec_witnesses.specs.MetPeriods.{Moment, difference_of}
use Rattle.hyd_spec_witnesses.specs.MiddleCandidate.{halves, IsHalfway}
use Rattle.hyd_met_flows.specs.Periods.{period_in}

-- ---- flows

-- q is the flow of a link halfway, where tanks and links are in these states
abbrev pub LinkPasses : Project → Moment → List TankState → List LinkState → GridLink → ℤ → Type 0
LinkPasses project moment tanks links here q =
    let d = difference_of project halves (period_in moment tanks links) here in
    IsHalfway (IsInRange halves here.law d) (low_at halves here.law d) (high_at halves here.law d) q

-- q is the demand flow of a junction halfway, at a pressure
abbrev pub DemandGets : GridJunction → ℤ → ℤ → Type 0
DemandGets here p q =
    IsHalfway (IsDemandInRange halves here.demand p) (demand_low_at halves here.demand p)
    (demand_high_at halves here.demand p) q

-- ---- moments

-- a moment with other flows of links
abbrev pub with_flows : Moment → List ℤ → Moment
with_flows moment flows = record moment { flows = flows }

-- with other demand flows
abbrev pub with_demands : Moment → List ℤ → Moment
with_demands moment demands = record moment { demands = demands }

-- with other emitter flows
abbrev pub with_emitters : Moment → List ℤ → Moment
with_emitters moment emitters = record moment { emitters = emitters }
