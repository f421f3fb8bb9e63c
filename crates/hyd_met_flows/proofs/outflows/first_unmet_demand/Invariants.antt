use Rattle.std.proofs.Common.{◌≡◌, ◌<◌, ℕ, List}
use Rattle.std.specs.Prelude.{Some, slice_get}
use Rattle.hyd_spec.specs.ProgramTypes.{LinkState}
use Rattle.hyd_spec.specs.declared.TankState.{TankState}
use Rattle.hyd_spec_certificates.specs.PeriodNetwork.{GridJunction}
use Rattle.hyd_spec_witnesses.specs.MetPeriods.{DemandIsMet}
use Rattle.hyd_period_network.specs.NetAsPeriodNetwork.{grid_of}
use Rattle.hyd_laws_at_scale.specs.Scales.{parts_of}
use Rattle.hyd_witness_texts.specs.MomentView.{moment_of}
use Rattle.hyd_met_flows.specs.Periods.{period_in}
use Rattle.hyd_met_flows.proofs.outflows.first_unmet_demand.Given as goal

-- the junctions so far are met
abbrev pub invariant-loop-junction : goal.invariant-loop-junction
invariant-loop-junction l = (tanks : List TankState) (links : List LinkState) (k : ℕ) (here : GridJunction)
    → k < l.junction → slice_get (grid_of l.net).junctions k ≡ Some here
    → DemandIsMet (parts_of l.scale) (period_in (moment_of l.moment) tanks links) k here
