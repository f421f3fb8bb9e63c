use Rattle.std.proofs.Common.{◌≡◌, List, length}
use Rattle.hyd_spec.specs.ProgramTypes.{LinkState}
use Rattle.hyd_spec.specs.declared.TankState.{TankState}
use Rattle.hyd_spec_witnesses.specs.MetPeriods.{pressure_of}
use Rattle.hyd_spec_witnesses.specs.MiddleCandidate.{halves, IsHalfwayEmitted}
use Rattle.hyd_spec_witnesses.specs.WitnessText.{AreValues}
use Rattle.hyd_period_network.specs.NetAsPeriodNetwork.{grid_of}
use Rattle.hyd_witness_texts.specs.MomentView.{moment_of}
use Rattle.hyd_met_flows.specs.Periods.{period_in}
use Rattle.hyd_stocks_below.proofs.ValuesSoFar.{Have}
use Rattle.hyd_middle_flows.specs.HalfwayFlows.{with_emitters}
use Rattle.hyd_middle_flows.proofs.outflows.put_emitters.Given as goal

-- the flows so far are halfway, and nothing else has changed
abbrev pub invariant-loop-junction : goal.invariant-loop-junction
invariant-loop-junction l = record {
  rest : moment_of l.into ≡ with_emitters (moment_of l.initial.into) l.into.emitters.list;
  fit : AreValues (length l.net.junctions) l.into.emitters.list;
  halfway : (tanks : List TankState) (links : List LinkState)
      → Have (λ k here z. IsHalfwayEmitted here.emitter (pressure_of halves (period_in (moment_of l.initial.into) tanks links) k here) z)
      (grid_of l.net).junctions l.into.emitters.list l.junction;
}
