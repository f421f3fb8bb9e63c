use Rattle.std.proofs.Common.{◌∙◌, ◌<◌, ℕ, ap, sym, subst, length, List, arith}
use Rattle.std.specs.Prelude.{map}
use Rattle.std.specs.List.{All}
use Rattle.std.proofs.lemmas.List.{length_push}
use Rattle.std.proofs.lemmas.List.Elements.{All-push}
use Rattle.hyd_num.specs.declared.spans.Span.{Span}
use Rattle.hyd_spec.specs.ProgramTypes.{Tank}
use Rattle.hyd_spec_certificates.specs.declared.Problem.TheVariants.{Pinned}
use Rattle.hyd_spec_certificates.specs.declared.Side.TheVariants.{Upper, Lower}
use Rattle.hyd_spec_certificates.specs.SpansAsIntervals.{flows_of}
use Rattle.hyd_spec_certificates.specs.Decided.{inflow_of_tank}
use Rattle.hyd_spec_spread_runs.specs.OutermostPairs.{spanned, spanning}
use Rattle.hyd_cert.specs.RecordView.{row_of}
use Rattle.hyd_tank.specs.StockIntervals.{IsInflow}
use Rattle.hyd_period_facts.proofs.ItemForEachNumber.{one_more, all_there}
use Rattle.hyd_spread_bounds.specs.BothSides.{pair_of}
use Rattle.hyd_spread_readings.proofs.ItemsOfBothSides.{inflow-is}
use Rattle.hyd_spread_readings.proofs.inflows.put_inflows.Goals as goal

pub overflow_cast-tank : goal.overflow_cast-tank
overflow_cast-tank c =
    let few = c.requires.sound.counts.tanks in
    let end = c.len-tank-end.ensures in
    omega (arith, few, end)

pub inflow_of-requires-clause-tanks : goal.inflow_of-requires-clause-tanks
inflow_of-requires-clause-tanks c =
    let tanks = c.requires.tanks in
    let each = c.requires.nets.upper_of.each_tank in
    omega (arith, tanks, each)

pub inflow_of-requires-clause-in_range : goal.inflow_of-requires-clause-in_range
inflow_of-requires-clause-in_range c =
    let each = c.requires.nets.upper_of.each_tank in
    let end = c.len-tank-end.ensures in
    let test = c.loop-tank-test.true in
    omega (arith, each, end, test)

pub inflow_of-requires-clause-low : goal.inflow_of-requires-clause-low
inflow_of-requires-clause-low c =
    let end = c.len-tank-end.ensures in
    let test = c.loop-tank-test.true in
    c.requires.certificates.each (Pinned c.loop-tank.tank) Lower (omega (arith, end, test))

pub inflow_of-requires-clause-high : goal.inflow_of-requires-clause-high
inflow_of-requires-clause-high c =
    let end = c.len-tank-end.ensures in
    let test = c.loop-tank-test.true in
    c.requires.certificates.each (Pinned c.loop-tank.tank) Upper (omega (arith, end, test))

pub loop-tank-preserved : goal.loop-tank-preserved
loop-tank-preserved c =
    let project = c.args.project.now in
    let upper = c.args.upper.now in
    let lower = c.args.lower.now in
    let pair = pair_of upper lower in
    let row = row_of c.args.row.now in
    let i : ℕ = c.loop-tank.tank in
    let end = c.len-tank-end.ensures in
    let test = c.loop-tank-test.true in
    let within : i < length project.tanks.list = omega (arith, end, test) in
    let item : Span = c.inflow_of.result in
    let listed = c.append.ensures.list in
    let long = length_push c.loop-tank.inflows.list item in
    let before = c.loop-tank.invariant.count in
    let each = c.requires.certificates.pinned_each in
    let pinned : i < length row.pinned = omega (arith, each, within) in
    record {
      count = omega (arith, ap length listed, long, before);
      inflows = ap (map flows_of) listed ∙ one_more flows_of
          (λ k (tank : Tank). inflow_of_tank project (spanned pair) (spanning pair row) k) project.tanks.list
          c.loop-tank.inflows.list item i within c.loop-tank.invariant.inflows
          (λ tank at. inflow-is project upper lower row i item c.requires.nets.upper_of pinned
          c.inflow_of.ensures.inflow);
      small = subst (λ (xs : List Span). All IsInflow xs) (sym listed)
          (All-push IsInflow c.loop-tank.inflows.list item c.loop-tank.invariant.small c.inflow_of.ensures.small);
      room = let room = c.loop-tank.invariant.room in let spare = c.append.ensures.spare in omega
          (arith, ap length listed, long, room, spare);
    }

pub returns-clause-inflows : goal.returns-clause-inflows
returns-clause-inflows c =
    let project = c.args.project.now in
    let pair = pair_of c.args.upper.now c.args.lower.now in
    let row = row_of c.args.row.now in
    let end = c.len-tank-end.ensures in
    let test = c.loop-tank-test.false in
    all_there (λ k (tank : Tank). inflow_of_tank project (spanned pair) (spanning pair row) k) project.tanks.list
    (map flows_of c.loop-tank.inflows.list) c.loop-tank.tank (omega (arith, end, test)) c.loop-tank.invariant.inflows
