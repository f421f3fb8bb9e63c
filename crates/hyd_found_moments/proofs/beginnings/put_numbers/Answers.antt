use Rattle.std.proofs.Common.{arith}
use Rattle.hyd_found_moments.proofs.beginnings.put_numbers.Goals as goal

pub returns : goal.returns
returns c = λ counts is. record {
  number_fits = omega (arith, c.ranges.number);
  time_fits = omega (arith, c.ranges.time);
  length_fits = omega (arith, c.ranges.seconds);
  heads = is.heads;
  flows = is.flows;
  demands = is.demands;
  emitters = is.emitters;
  levels = is.levels;
  volumes = is.volumes;
}
