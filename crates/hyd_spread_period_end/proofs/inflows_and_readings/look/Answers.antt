use Rattle.hyd_cert.specs.RecordView.{row_of}
use Rattle.hyd_spread_period_end.proofs.PairsOfNets.{in-period, certificates-on, looked-on}
use Rattle.hyd_spread_period_end.proofs.inflows_and_readings.look.Goals as goal

pub look_on_both-requires-clause-nets : goal.look_on_both-requires-clause-nets
look_on_both-requires-clause-nets c =
    in-period c.args.nets.now c.on-upper.result.now c.on-lower.result.now c.on-upper.ensures c.on-lower.ensures
    c.args.project.now c.requires.of c.requires.pair c.requires.levels

pub look_on_both-requires-clause-certificates : goal.look_on_both-requires-clause-certificates
look_on_both-requires-clause-certificates c =
    certificates-on c.args.nets.now c.on-upper.result.now c.on-lower.result.now c.on-upper.ensures c.on-lower.ensures
    c.args.project.now (row_of c.args.row.now) c.requires.certificates

pub returns-clause-looked : goal.returns-clause-looked
returns-clause-looked c =
    looked-on c.args.nets.now c.on-upper.result.now c.on-lower.result.now c.on-upper.ensures c.on-lower.ensures
    c.args.project.now (row_of c.args.row.now) c.look_on_both.new.facts c.look_on_both.new.readings
    c.look_on_both.ensures.looked
