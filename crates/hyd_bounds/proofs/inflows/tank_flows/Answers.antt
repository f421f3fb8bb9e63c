use Rattle.std.proofs.Common.{◌≡◌, ◌∙◌, ap, to_z, of_z, arith, ℤ, List}
use Rattle.std.specs.Int.{w128}
use Rattle.std.proofs.lemmas.Int.{ints}
use Rattle.hyd_spec_certificates.specs.declared.Problem.TheVariants.{Pinned}
use Rattle.hyd_spec_certificates.specs.PeriodNetwork.{all_heads}
use Rattle.hyd_period_network.specs.NetAsPeriodNetwork.{grid_of}
use Rattle.hyd_vector_check.specs.NetOutflowBySide.{flows_out}
use Rattle.hyd_bounds.proofs.FlowBoxes.{set-beyond}
use Rattle.hyd_bounds.proofs.inflows.tank_flows.Goals as goal

pub returns-clause-value : goal.returns-clause-value
returns-clause-value c =
    let grid = grid_of c.args.net.now in
    let small = c.flows_out.ensures.small in
    let kept : to_z w128 (of_z w128 c.flows_out.result) ≡ c.flows_out.result = omega (arith, ints, small) in
    let one_each = c.requires.vector.one_each in
    let node = c.requires.node in
    kept ∙ (c.flows_out.ensures.value
    ∙ ap (λ (v : List ℤ). flows_out c.args.side (all_heads grid (Pinned c.args.tank) c.args.side v) c.args.node
    grid.links)
    (set-beyond c.args.u.now c.args.node _ (omega (arith, one_each, node))))
