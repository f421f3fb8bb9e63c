use Rattle.std.proofs.Common.{pos}
use Rattle.hyd_num.specs.Rational.{whole}
use Rattle.hyd_rules_at_scale.proofs.ReadingsOfInstants.{level_there}
use Rattle.hyd_rules_at_scale.proofs.readings.level_of.Goals as goal

pub returns-clause-value : goal.returns-clause-value
returns-clause-value c = λ levels are.
    level_there c.args.instant.now.levels.now levels c.args.tank _ (whole (pos 0)) are c.requires.there
