use Rattle.std.proofs.Common.{◌∙◌}
use Rattle.hyd_power_laws_at_scale.proofs.TestsInParts.{down-is}
use Rattle.hyd_power_laws_at_scale.proofs.flows_in_parts.down_in_parts.Goals as goal

pub minor_in_parts-minor-requires-clause-near : goal.minor_in_parts-minor-requires-clause-near
minor_in_parts-minor-requires-clause-near c = c.args.capacity.now.minor_near

pub returns-clause-value : goal.returns-clause-value
returns-clause-value c =
    c.flow_down.ensures.value
    ∙ down-is c.args.power c.args.capacity.now.low c.constant_in_parts-low.result c.constant_in_parts-low.ensures
    c.args.capacity.now.minor c.minor_in_parts-minor.result c.minor_in_parts-minor.ensures c.args.head
