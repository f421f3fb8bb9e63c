use Rattle.std.proofs.Common.{length}
use Rattle.hyd_spec_certificates.specs.StartsRaisesAndLeaps.{IsStart, HasRounds}
use Rattle.hyd_period_network.specs.NetAsPeriodNetwork.{grid_of}
use Rattle.hyd_sweep.specs.Sweeps.{AreRaises, in_rounds}
use Rattle.hyd_sweep.proofs.rounds.tighten.Given as goal

abbrev pub invariant-loop-spent : goal.invariant-loop-spent
invariant-loop-spent l = record {
  start : IsStart l.held (grid_of l.net) l.problem l.side l.u;
  way : AreRaises l.held (grid_of l.net) l.problem l.side (in_rounds l.spent (length (grid_of l.net).junctions))
      l.initial.u l.u;
  rounds : HasRounds l.held (grid_of l.net) l.problem l.side l.spent l.initial.u l.u;
}
