use Rattle.std.proofs.Common.{◌≡◌, ◌∙◌, sym, ap, subst, arith, length}
use Rattle.hyd_spec_certificates.specs.declared.LevelSpan.{LevelSpan}
use Rattle.hyd_spec_certificates.specs.declared.Side.TheVariants.{Upper, Lower}
use Rattle.hyd_spec_spread_runs.specs.OutermostPairs.{Pair}
use Rattle.hyd_spec_spread_targets.specs.FirstPeriodWithin.{IsFirstPair}
use Rattle.hyd_spec_spread_targets.specs.BracketsOverPairs.{IsBracketOver}
use Rattle.hyd_period_network.specs.NetView.{NetView}
use Rattle.hyd_period_network.specs.NetAsPeriodNetwork.{grid_of}
use Rattle.hyd_spec.specs.DemandsHeadsAndPumpLifts.{is_us}
use Rattle.hyd_lemmas.proofs.ListsOptionsAndResults.{item_there}
use Rattle.hyd_theorems_on_spread_targets.proofs.EdgesHoldWithin.{edge-enough, edge-too-much}
use Rattle.hyd_spread_networks.specs.NetsOfSpreads.{pair_of}
use Rattle.hyd_targets.proofs.TargetsOfJunctions.{den-some}
use Rattle.hyd_spread_targets.specs.InquiriesWithin.{spread_for, target_within}
use Rattle.hyd_spread_targets.proofs.FirstPeriodsReady.{net-long}
use Rattle.hyd_spread_targets.proofs.bracket_within.put_bracket_within.Goals as goal

pub available-bracket-requires-clause-one_each : goal.available-bracket-requires-clause-one_each
available-bracket-requires-clause-one_each g c =
    c.requires.open.study ∙ sym (ap (λ (n : NetView). length n.junctions) c.net.ensures
    ∙ net-long c.args.project.now c.args.inquiry.now.first.nets c.requires.open.ready.of Upper)

pub available-bracket-requires-clause-alike : goal.available-bracket-requires-clause-alike
available-bracket-requires-clause-alike g c =
    ap (λ (n : NetView). length n.junctions) c.net.ensures
    ∙ (net-long c.args.project.now c.args.inquiry.now.first.nets c.requires.open.ready.of Upper
    ∙ sym (ap (λ (n : NetView). length n.junctions) c.net-2.ensures
    ∙ net-long c.args.project.now c.args.inquiry.now.first.nets c.requires.open.ready.of Lower))

pub available-bracket-requires-clause-inside : goal.available-bracket-requires-clause-inside
available-bracket-requires-clause-inside g c =
    let inside = c.requires.inside in
    let long = ap (λ (n : NetView). length n.junctions) c.net.ensures
    ∙ net-long c.args.project.now c.args.inquiry.now.first.nets c.requires.open.ready.of Upper in
    omega (arith, inside, long)

pub returns : goal.returns
returns g c name named =
    let project = c.args.project.now in
    let inquiry = c.args.inquiry.now in
    let spread = spread_for inquiry in
    let decided = c.requires.open.ready.decided in
    let target = target_within project inquiry in
    let some = den-some (is_us project) inquiry.pressure.nano in
    let j = c.args.junction in
    let here = item_there project.junctions.list j c.requires.inside in
    let same = c.target-target.ensures.value here.0 here.1 in
    let pair : Pair = record { upper = grid_of c.net.result.now; lower = grid_of c.net-2.result.now } in
    let are : pair_of inquiry.first.nets ≡ pair = λ i. record {
      upper = grid_of (sym c.net.ensures i);
      lower = grid_of (sym c.net-2.ensures i);
    } in
    let is : IsFirstPair project spread pair = subst (IsFirstPair project spread) are c.requires.pair in
    let bracket = subst (λ (t : LevelSpan). IsBracketOver pair j t.lo t.hi c.args.rounds c.available-bracket.result)
    same c.available-bracket.ensures.bracket in (
      c.put_fire.ensures.0,
      (
        record {
          place = j;
          is_place = record { inside = c.requires.inside; named = named };
          junction = here.0;
          is_junction = here.1;
          pair = pair;
          is_pair = is;
          bracket = c.available-bracket.result;
          is_bracket = bracket;
          enough = edge-enough project c.requires.sound spread decided pair is j c.args.rounds here.0.elevation target
              some c.available-bracket.result.below bracket.below;
          too_much = edge-too-much project c.requires.sound spread decided pair is j c.args.rounds here.0.elevation
              target some c.available-bracket.result.above bracket.above;
          is_line = c.put_fire.ensures.1.0;
        },
        c.put_fire.ensures.1.1,
      ),
    )
