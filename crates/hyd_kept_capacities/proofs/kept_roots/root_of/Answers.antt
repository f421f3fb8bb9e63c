use Rattle.std.proofs.Common.{arith}
use Rattle.hyd_kept_capacities.proofs.kept_roots.root_of.Goals as goal

pub returns-clause-root : goal.returns-clause-root
returns-clause-root c = record {
  across = c.diameter_in_feet.result;
  across_is = c.diameter_in_feet.ensures.value;
  root_is = c.root533-root.ensures.root;
  near = omega (arith, c.root533-root.ensures.near, c.diameter_in_feet.ensures.near);
}
