use Rattle.std.proofs.Common.{◌∙◌, sym, ap, subst, arith, length}
use Rattle.hyd_spec_certificates.specs.declared.LevelSpan.{LevelSpan}
use Rattle.hyd_spec_pressure_targets.specs.FirstPeriod.{IsFirstGrid}
use Rattle.hyd_spec_pressure_targets.specs.BracketOfDraws.{IsBracket}
use Rattle.hyd_period_network.specs.NetView.{NetView}
use Rattle.hyd_period_network.specs.NetAsPeriodNetwork.{grid_of}
use Rattle.hyd_spec.specs.DemandsHeadsAndPumpLifts.{is_us}
use Rattle.hyd_lemmas.proofs.ListsOptionsAndResults.{item_there}
use Rattle.hyd_spec_spread_targets.proofs.OneGridOnBothSides.{bracket-alone}
use Rattle.hyd_theorems_on_pressure_targets.proofs.EdgesHold.{edge-enough, edge-too-much}
use Rattle.hyd_targets.specs.Inquiries.{target_for}
use Rattle.hyd_targets.proofs.TargetsOfJunctions.{net-long, den-some}
use Rattle.hyd_targets.proofs.bracket.put_bracket.Goals as goal

pub available-bracket-requires-clause-one_each : goal.available-bracket-requires-clause-one_each
available-bracket-requires-clause-one_each g c =
    c.requires.open.study ∙ sym (ap (λ (n : NetView). length n.junctions) c.net-net.ensures
    ∙ net-long c.args.project.now c.args.inquiry.now.first.net c.requires.open.ready.of)

pub available-bracket-requires-clause-inside : goal.available-bracket-requires-clause-inside
available-bracket-requires-clause-inside g c =
    let inside = c.requires.inside in
    let long = ap (λ (n : NetView). length n.junctions) c.net-net.ensures
    ∙ net-long c.args.project.now c.args.inquiry.now.first.net c.requires.open.ready.of in
    omega (arith, inside, long)

pub returns : goal.returns
returns g c name named =
    let project = c.args.project.now in
    let inquiry = c.args.inquiry.now in
    let target = target_for project inquiry in
    let some = den-some (is_us project) inquiry.pressure.nano in
    let j = c.args.junction in
    let here = item_there project.junctions.list j c.requires.inside in
    let same = c.target-target.ensures.value here.0 here.1 in
    let grid = grid_of c.net-net.result.now in
    let is : IsFirstGrid project grid =
    subst (λ (n : NetView). IsFirstGrid project (grid_of n)) (sym c.net-net.ensures) c.requires.grid in
    let bracket = subst (λ (t : LevelSpan). IsBracket grid j t.lo t.hi c.args.rounds c.available-bracket.result) same
    ((bracket-alone grid j c.target-target.result.lo c.target-target.result.hi c.args.rounds
    c.available-bracket.result).0 c.available-bracket.ensures.bracket) in (
      c.put_fire.ensures.0,
      (
        record {
          place = j;
          is_place = record { inside = c.requires.inside; named = named };
          junction = here.0;
          is_junction = here.1;
          grid = grid;
          is_grid = is;
          bracket = c.available-bracket.result;
          is_bracket = bracket;
          enough = edge-enough project c.requires.sound grid is j c.args.rounds here.0.elevation target some
              c.available-bracket.result.below bracket.below;
          too_much = edge-too-much project c.requires.sound grid is j c.args.rounds here.0.elevation target some
              c.available-bracket.result.above bracket.above;
          is_line = c.put_fire.ensures.1.0;
        },
        c.put_fire.ensures.1.1,
      ),
    )
