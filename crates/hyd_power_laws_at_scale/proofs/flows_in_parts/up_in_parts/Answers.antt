use Rattle.std.proofs.Common.{◌∙◌}
use Rattle.hyd_spec_power_laws.specs.WholeFlows.{greatest_head, greatest_flow}
use Rattle.hyd_power_laws_at_scale.proofs.TestsInParts.{high_passes, up-is}
use Rattle.hyd_power_laws_at_scale.proofs.flows_in_parts.up_in_parts.Goals as goal

pub minor_in_parts-minor-requires-clause-near : goal.minor_in_parts-minor-requires-clause-near
minor_in_parts-minor-requires-clause-near c = c.args.capacity.now.minor_near

pub flow_up-requires-clause-covers : goal.flow_up-requires-clause-covers
flow_up-requires-clause-covers c =
    high_passes c.args.power c.args.capacity.now.high c.constant_in_parts-high.result c.constant_in_parts-high.ensures
    c.args.capacity.now.minor c.minor_in_parts-minor.result c.minor_in_parts-minor.ensures greatest_head greatest_flow
    ∙ c.requires.in_range

pub returns-clause-value : goal.returns-clause-value
returns-clause-value c =
    c.flow_up.ensures.value
    ∙ up-is c.args.power c.args.capacity.now.high c.constant_in_parts-high.result c.constant_in_parts-high.ensures
    c.args.capacity.now.minor c.minor_in_parts-minor.result c.minor_in_parts-minor.ensures c.args.head c.requires.head
    c.requires.in_range
