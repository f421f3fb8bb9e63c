use Rattle.hyd_rules_at_scale.proofs.ReadingsOfInstants.{in_ticks_is}
use Rattle.hyd_rules_at_scale.proofs.readings.in_ticks.Goals as goal

pub returns-clause-value : goal.returns-clause-value
returns-clause-value c = λ x exactly.
    in_ticks_is c.args.value c.parts.result _ x c.parts.ensures.value c.parts.ensures.some exactly
