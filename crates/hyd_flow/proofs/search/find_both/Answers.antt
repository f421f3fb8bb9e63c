use Rattle.std.proofs.Common.{sym, subst, ◌∙◌}
use Rattle.hyd_cert.specs.RecordView.{row_of}
use Rattle.hyd_period_network.specs.NetAsPeriodNetwork.{grid_of}
use Rattle.hyd_spec_certificates.specs.declared.Side.TheVariants.{Upper, Lower}
use Rattle.hyd_spec_flows.specs.FlowParts.{IsHeldVector, IsSharpVector}
use Rattle.hyd_flow.proofs.FoundVectors.{take_front, drop_front}
use Rattle.hyd_flow.proofs.search.find_both.Goals as goal

pub returns-clause-upper : goal.returns-clause-upper
returns-clause-upper c = λ link e.
    subst (IsHeldVector (grid_of c.args.net.now) (row_of c.args.row.now) link Upper)
    (sym (take_front c.args.row.now.junctions c.find_vector.new.heads c.find_vector-2.new.heads
    (c.find_vector.ensures.each ∙ c.split_at_mut-upper.ensures.front_len)))
    (c.find_vector.ensures.held link e)

pub returns-clause-lower : goal.returns-clause-lower
returns-clause-lower c = λ link e.
    subst (IsHeldVector (grid_of c.args.net.now) (row_of c.args.row.now) link Lower)
    (sym (drop_front c.args.row.now.junctions c.find_vector.new.heads c.find_vector-2.new.heads
    (c.find_vector.ensures.each ∙ c.split_at_mut-upper.ensures.front_len)))
    (c.find_vector-2.ensures.held link e)

pub returns-clause-near_upper : goal.returns-clause-near_upper
returns-clause-near_upper c = λ link e.
    subst (IsSharpVector c.args.rounds (grid_of c.args.net.now) (row_of c.args.row.now) link Upper)
    (sym (take_front c.args.row.now.junctions c.find_vector.new.heads c.find_vector-2.new.heads
    (c.find_vector.ensures.each ∙ c.split_at_mut-upper.ensures.front_len)))
    (c.find_vector.ensures.near link e)

pub returns-clause-near_lower : goal.returns-clause-near_lower
returns-clause-near_lower c = λ link e.
    subst (IsSharpVector c.args.rounds (grid_of c.args.net.now) (row_of c.args.row.now) link Lower)
    (sym (drop_front c.args.row.now.junctions c.find_vector.new.heads c.find_vector-2.new.heads
    (c.find_vector.ensures.each ∙ c.split_at_mut-upper.ensures.front_len)))
    (c.find_vector-2.ensures.near link e)
