-- A record is accepted and reported, or it is refused.
use Rattle.std.proofs.Common.{refl}
use Rattle.hyd_spread_check_so_far.specs.SpreadCheckSoFar.{in_report}
use Rattle.hyd_cert_check.specs.declared.outcome.CheckFault.TheVariants.{Output}
use Rattle.hyd_cert_check.proofs.PenLemmas.{not_cert, put-in, put-cut-off}
use Rattle.hyd_spread_check.proofs.SpreadRecordLemmas.{of-period, did-there, lost-there, refused-there}
use Rattle.hyd_spread_check.proofs.records.try_record.Goals as goal

pub accept-requires-clause-header : goal.accept-requires-clause-header
accept-requires-clause-header g c = c.requires.header

pub put_period_lines-requires : goal.put_period_lines-requires
put_period_lines-requires g c = record {
  period = of-period c.args.sim.now _ c.project-project.ensures.is_sim c.in-Ok.ensures.accepted;
  ready = not_cert _ _ c.requires.unbroken.to;
}

pub returns-in-Err-clause-tries : goal.returns-in-Err-clause-tries
returns-in-Err-clause-tries g c = λ before reader read none.
    refused-there _ _ _ _ _ c.in-Err.cause before _ c.in-Err.ensures.standing c.in-Err.ensures.refused read none

pub returns-in-Ok-put_period_lines-clause-tries : goal.returns-in-Ok-put_period_lines-clause-tries
returns-in-Ok-put_period_lines-clause-tries g c = λ before reader read none.
    let put = c.in-Ok-put_period_lines.ensures in
    did-there c.args.sim.now _ c.project-project.ensures.is_sim c.in-Ok.ensures.accepted _ c.accept.ensures.project _
    c.accept.ensures.spread _ c.in-Ok.ensures.found before _ _ read none refl put.rest_stays
    (put-in _ reader reader _ _ _ _ c.requires.unbroken put)

pub returns-in-Err-put_period_lines-clause-tries : goal.returns-in-Err-put_period_lines-clause-tries
returns-in-Err-put_period_lines-clause-tries g c = λ before reader read none.
    let put = c.in-Err-put_period_lines.ensures in
    in_report (lost-there c.args.sim.now _ c.project-project.ensures.is_sim c.in-Ok.ensures.accepted _
    c.accept.ensures.project _ c.accept.ensures.spread _ c.in-Ok.ensures.found before _ _ read none refl
    put.rest_stays
    (Output c.in-Err-put_period_lines.fault)
    (put-cut-off _ c.in-Err-put_period_lines.fault reader reader _ _ _ _ c.requires.unbroken put))
