use Rattle.std.proofs.Common.{◌≡◌, ◌<◌, ◌∙◌, subst, arith, to_z, of_z, length}
use Rattle.std.specs.Int.{w128}
use Rattle.std.specs.Prelude.{Some}
use Rattle.std.proofs.lemmas.Int.{ints}
use Rattle.hyd_lemmas.proofs.ListsOptionsAndResults.{item_there}
use Rattle.hyd_period_network.specs.NetAsPeriodNetwork.{grid_of}
use Rattle.hyd_sweep.specs.declared.answers_of_sweeps.Swept.{Swept}
use Rattle.hyd_fire.specs.SearchesOnSides.{IsSought}
use Rattle.hyd_fire.proofs.brackets.edge_by.Goals as goal

pub returns-in-Least-clause-edge : goal.returns-in-Least-clause-edge
returns-in-Least-clause-edge c =
    let grid = grid_of c.args.net.now in
    let inside : c.args.held.junction < length grid.junctions =
    (let a = c.requires.inside in let b = c.junctions-junctions.ensures.each in omega (arith, a, b)) in
    let there = item_there grid.junctions c.args.held.junction inside in
    let small = c.passing_draw.ensures.small in
    let kept : to_z w128 (of_z w128 c.passing_draw.result) ≡ c.passing_draw.result = omega (arith, ints, small) in
    record {
      heads = c.args.heads.now;
      tight = subst (λ (swept : Swept). IsSought (Some c.args.held) grid c.args.side c.args.rounds c.args.heads.now
          swept) c.in-Least.is c.requires.sought;
      here = there.0;
      is_here = there.1;
      draw_is = kept ∙ c.passing_draw.ensures.value there.0 there.1;
    }
