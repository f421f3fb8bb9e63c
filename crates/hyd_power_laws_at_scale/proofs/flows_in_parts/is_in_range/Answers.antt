use Rattle.std.proofs.Common.{◌∙◌}
use Rattle.hyd_spec_power_laws.specs.WholeFlows.{greatest_head, greatest_flow}
use Rattle.hyd_power_laws_at_scale.proofs.TestsInParts.{high_passes}
use Rattle.hyd_power_laws_at_scale.proofs.flows_in_parts.is_in_range.Goals as goal

pub minor_in_parts-requires-clause-near : goal.minor_in_parts-requires-clause-near
minor_in_parts-requires-clause-near c = c.args.capacity.now.minor_near

pub returns : goal.returns
returns c =
    c.covers.ensures
    ∙ high_passes c.args.power c.args.capacity.now.high c.constant_in_parts.result c.constant_in_parts.ensures
    c.args.capacity.now.minor c.minor_in_parts.result c.minor_in_parts.ensures greatest_head greatest_flow
