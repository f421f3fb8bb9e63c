use Rattle.hyd_spec_spread_runs.specs.OutermostPairs.{spanned, spanning}
use Rattle.hyd_cert.specs.RecordView.{row_of}
use Rattle.hyd_period_end.proofs.FactsByVectors.{have-tanks}
use Rattle.hyd_open_period_end.proofs.PeriodsLookedAt.{still-ready}
use Rattle.hyd_spread_bounds.specs.BothSides.{pair_of}
use Rattle.hyd_spread_period_end.proofs.inflows_and_readings.look_on_both.Goals as goal

pub returns-clause-looked : goal.returns-clause-looked
returns-clause-looked c = record { inflows = c.put_inflows.ensures.inflows; read = c.put_readings.ensures.read }

pub returns-clause-have : goal.returns-clause-have
returns-clause-have c =
    let pair = pair_of c.args.upper.now c.args.lower.now in
    have-tanks c.args.project.now (spanned pair) (spanning pair (row_of c.args.row.now)) c.args.facts.now
    c.put_inflows.new.inflows c.requires.ready c.put_inflows.ensures.inflows c.put_inflows.ensures.small

pub returns-clause-ready : goal.returns-clause-ready
returns-clause-ready c =
    still-ready c.args.project.now c.args.facts.now c.put_inflows.new.inflows c.requires.ready
    c.put_inflows.ensures.room

pub returns-clause-readings : goal.returns-clause-readings
returns-clause-readings c = record {
  each_low = c.put_readings.ensures.each_low;
  each_high = c.put_readings.ensures.each_high;
  each_flow = c.put_readings.ensures.each_flow;
  bounded = c.put_readings.ensures.bounded;
}
