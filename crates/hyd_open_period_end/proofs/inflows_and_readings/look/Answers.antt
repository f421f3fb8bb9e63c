use Rattle.hyd_cert.specs.RecordView.{row_of}
use Rattle.hyd_period_network.specs.NetAsPeriodNetwork.{grid_of}
use Rattle.hyd_period_end.proofs.FactsByVectors.{lower-is, upper-is, in-order, each-low, each-high, each-flow}
use Rattle.hyd_period_end.proofs.FactsByVectors.{pinned-of, have-tanks}
use Rattle.hyd_open_period_end.proofs.PeriodsLookedAt.{still-ready}
use Rattle.hyd_open_period_end.proofs.inflows_and_readings.look.Goals as goal

pub put_inflows-requires-clause-pinned : goal.put_inflows-requires-clause-pinned
put_inflows-requires-clause-pinned c =
    pinned-of c.args.project.now c.args.net.now c.args.row.now c.requires.of c.requires.certificates c.requires.tanks

pub put-requires-clause-lower : goal.put-requires-clause-lower
put-requires-clause-lower c =
    lower-is c.args.project.now c.args.net.now (row_of c.args.row.now) c.requires.of c.requires.certificates

pub put-requires-clause-upper : goal.put-requires-clause-upper
put-requires-clause-upper c =
    upper-is c.args.project.now c.args.net.now (row_of c.args.row.now) c.requires.of c.requires.certificates

pub put-requires-clause-ordered : goal.put-requires-clause-ordered
put-requires-clause-ordered c =
    in-order c.args.project.now c.args.net.now (row_of c.args.row.now) c.requires.of c.requires.certificates
    c.junctions-junctions.ensures.steady c.requires.order

pub returns-clause-looked : goal.returns-clause-looked
returns-clause-looked c = record { inflows = c.put_inflows.ensures.inflows; read = c.put.ensures.read }

pub returns-clause-readings : goal.returns-clause-readings
returns-clause-readings c =
    let project = c.args.project.now in
    let net = c.args.net.now in
    let row = row_of c.args.row.now in
    record {
      each_low = each-low project net row c.requires.of c.requires.certificates _ _ _ c.put.ensures.read;
      each_high = each-high project net row c.requires.of c.requires.certificates _ _ _ c.put.ensures.read;
      each_flow = each-flow project net row c.requires.of c.requires.certificates _ _ _ c.put.ensures.read;
      bounded = c.put.ensures.bounded;
    }

pub returns-clause-have : goal.returns-clause-have
returns-clause-have c =
    have-tanks c.args.project.now (grid_of c.args.net.now) (row_of c.args.row.now) c.args.facts.now
    c.put_inflows.new.inflows c.requires.ready c.put_inflows.ensures.inflows c.put_inflows.ensures.small

pub returns-clause-ready : goal.returns-clause-ready
returns-clause-ready c =
    still-ready c.args.project.now c.args.facts.now c.put_inflows.new.inflows c.requires.ready
    c.put_inflows.ensures.room
