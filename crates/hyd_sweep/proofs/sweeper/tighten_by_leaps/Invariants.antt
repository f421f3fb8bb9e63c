use Rattle.hyd_spec_certificates.specs.StartsRaisesAndLeaps.{IsStart, HasRounds}
use Rattle.hyd_period_network.specs.NetAsPeriodNetwork.{grid_of}
use Rattle.hyd_sweep.specs.LeapingRounds.{AreLeapingRounds}
use Rattle.hyd_sweep.proofs.sweeper.tighten_by_leaps.Given as goal

abbrev pub invariant-loop-spent : goal.invariant-loop-spent
invariant-loop-spent l = record {
  start : IsStart l.held (grid_of l.net) l.problem l.side l.u;
  way : AreLeapingRounds l.held (grid_of l.net) l.problem l.side l.spent l.initial.u l.u;
  rounds : HasRounds l.held (grid_of l.net) l.problem l.side l.spent l.initial.u l.u;
}
