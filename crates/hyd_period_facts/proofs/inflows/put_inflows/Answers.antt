use Rattle.std.proofs.Common.{◌∙◌, ◌<◌, ℕ, ap, sym, subst, length, List, arith}
use Rattle.std.specs.Prelude.{map}
use Rattle.std.specs.List.{All}
use Rattle.std.proofs.lemmas.List.{length_push}
use Rattle.std.proofs.lemmas.List.Elements.{All-push}
use Rattle.hyd_num.specs.declared.spans.Span.{Span}
use Rattle.hyd_spec.specs.ProgramTypes.{Tank}
use Rattle.hyd_spec_certificates.specs.SpansAsIntervals.{flows_of}
use Rattle.hyd_spec_certificates.specs.Decided.{inflow_of_tank}
use Rattle.hyd_cert.specs.RecordView.{row_of}
use Rattle.hyd_period_network.specs.NetAsPeriodNetwork.{grid_of}
use Rattle.hyd_tank.specs.StockIntervals.{IsInflow}
use Rattle.hyd_period_facts.proofs.ItemForEachNumber.{one_more, all_there}
use Rattle.hyd_period_facts.proofs.InflowsByNumber.{inflow_is, pinned_there}
use Rattle.hyd_period_facts.proofs.inflows.put_inflows.Goals as goal

pub overflow_cast-tank : goal.overflow_cast-tank
overflow_cast-tank c =
    let few = c.requires.sound.counts.tanks in
    let end = c.len-tank-end.ensures in
    omega (arith, few, end)

pub loop-tank-preserved : goal.loop-tank-preserved
loop-tank-preserved c =
    let project = c.args.project.now in
    let net = c.args.net.now in
    let row = row_of c.args.row.now in
    let i : ℕ = c.loop-tank.tank in
    let end = c.len-tank-end.ensures in
    let test = c.loop-tank-test.true in
    let within : i < length project.tanks.list = omega (arith, end, test) in
    let item : Span = c.inflow_of.result in
    let listed = c.append.ensures.list in
    let long = length_push c.loop-tank.inflows.list item in
    let before = c.loop-tank.invariant.count in
    let pinned : i < length row.pinned =
    pinned_there project c.args.net.now c.args.row.now i c.requires.of c.requires.pinned within in
    record {
      count = omega (arith, ap length listed, long, before);
      inflows = ap (map flows_of) listed ∙ one_more flows_of
          (λ k (tank : Tank). inflow_of_tank project
          (grid_of net) row k) project.tanks.list c.loop-tank.inflows.list item i within
          c.loop-tank.invariant.inflows
          (λ tank at. inflow_is project net (grid_of net) row i item c.requires.of pinned c.inflow_of.ensures.inflow);
      small = subst (λ (xs : List Span). All IsInflow xs) (sym listed)
          (All-push IsInflow c.loop-tank.inflows.list item c.loop-tank.invariant.small c.inflow_of.ensures.small);
      room = let room = c.loop-tank.invariant.room in let spare = c.append.ensures.spare in omega
          (arith, ap length listed, long, room, spare);
    }

pub returns-clause-inflows : goal.returns-clause-inflows
returns-clause-inflows c =
    let project = c.args.project.now in
    let row = row_of c.args.row.now in
    let end = c.len-tank-end.ensures in
    let test = c.loop-tank-test.false in
    all_there (λ k (tank : Tank). inflow_of_tank project (grid_of c.args.net.now) row k) project.tanks.list
    (map flows_of c.loop-tank.inflows.list) c.loop-tank.tank (omega (arith, end, test)) c.loop-tank.invariant.inflows
