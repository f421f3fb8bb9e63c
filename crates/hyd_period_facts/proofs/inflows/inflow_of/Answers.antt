use Rattle.std.proofs.Common.{◌∙◌, ◌<◌, length, sym, subst, arith, List, ℤ}
use Rattle.hyd_spec_certificates.specs.declared.Problem.TheVariants.{Pinned}
use Rattle.hyd_spec_certificates.specs.declared.Side.TheVariants.{Upper, Lower}
use Rattle.hyd_spec_certificates.specs.Certificate.{IsCertificate}
use Rattle.hyd_period_network.specs.NetAsPeriodNetwork.{grid_of}
use Rattle.hyd_period_facts.proofs.inflows.inflow_of.Goals as goal

pub tank_inflow-requires-clause-low : goal.tank_inflow-requires-clause-low
tank_inflow-requires-clause-low c =
    let grid = grid_of c.args.net.now in
    let each = c.tanks-tanks.ensures.each in
    let given = c.requires.in_range in
    let passes = subst (λ (u : List ℤ). IsCertificate grid (Pinned c.args.tank) Lower u) (sym c.vector.ensures)
    (c.requires.pinned.each c.args.tank Lower (omega (arith, each, given))) in
    record { one_each = passes.one_each ∙ c.junctions-junctions.ensures.each; in_box = passes.in_box }

pub tank_inflow-requires-clause-high : goal.tank_inflow-requires-clause-high
tank_inflow-requires-clause-high c =
    let grid = grid_of c.args.net.now in
    let each = c.tanks-tanks.ensures.each in
    let given = c.requires.in_range in
    let passes = subst (λ (u : List ℤ). IsCertificate grid (Pinned c.args.tank) Upper u) (sym c.vector-2.ensures)
    (c.requires.pinned.each c.args.tank Upper (omega (arith, each, given))) in
    record { one_each = passes.one_each ∙ c.junctions-junctions.ensures.each; in_box = passes.in_box }

pub tank_inflow-requires-clause-ordered : goal.tank_inflow-requires-clause-ordered
tank_inflow-requires-clause-ordered c =
    let grid = grid_of c.args.net.now in
    let each = c.tanks-tanks.ensures.each in
    let given = c.requires.in_range in
    let there : c.args.tank < length grid.tanks = omega (arith, each, given) in
    let below = subst (λ (u : List ℤ). IsCertificate grid (Pinned c.args.tank) Lower u) (sym c.vector.ensures)
    (c.requires.pinned.each c.args.tank Lower there) in
    let above = subst (λ (u : List ℤ). IsCertificate grid (Pinned c.args.tank) Upper u) (sym c.vector-2.ensures)
    (c.requires.pinned.each c.args.tank Upper there) in
    c.pinned_in_order.ensures.heads grid c.junctions-junctions.ensures.steady c.args.tank c.vector.result.now
    c.vector-2.result.now there c.requires.levels below above
