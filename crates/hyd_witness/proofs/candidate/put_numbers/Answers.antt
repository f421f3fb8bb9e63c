use Rattle.std.proofs.Common.{arith}
use Rattle.hyd_witness.proofs.candidate.put_numbers.Goals as goal

pub returns-clause-moment : goal.returns-clause-moment
returns-clause-moment c = λ counts is. record {
  number_fits = omega (arith, c.ranges.number);
  time_fits = omega (arith, c.ranges.time);
  length_fits = omega (arith, c.ranges.seconds);
  heads = is.heads;
  flows = is.flows;
  demands = is.demands;
  emitters = is.emitters;
  levels = is.levels;
  volumes = is.volumes;
}
