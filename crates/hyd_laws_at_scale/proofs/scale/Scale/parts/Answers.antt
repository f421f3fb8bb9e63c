use Rattle.std.proofs.Common.{arith}
use Rattle.hyd_laws_at_scale.proofs.Scales.{power_small}
use Rattle.hyd_laws_at_scale.proofs.scale.Scale.parts.Goals as goal

pub returns-clause-few : goal.returns-clause-few
returns-clause-few c = omega (arith, c.two_to.ensures, power_small c.args.self.power c.args.self.small)
