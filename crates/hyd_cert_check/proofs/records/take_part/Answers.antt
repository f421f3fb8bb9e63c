-- A record that was accepted is reported, or its part is refused.
use Rattle.std.proofs.Common.{ap, refl}
use Rattle.hyd_cert.specs.declared.record.Record.{Record as Row}
use Rattle.hyd_sim.specs.RunView.{standing_of}
use Rattle.hyd_cert_check.specs.declared.outcome.CheckFault.TheVariants.{Output}
use Rattle.hyd_cert_check.proofs.PenLemmas.{not_cert, put-in, put-cut-off}
use Rattle.hyd_cert_check.proofs.RecordLemmas.{part-refused, did-there, lost-there, begins-there}
use Rattle.hyd_cert_check.proofs.records.take_part.Goals as goal

pub put_period-requires-clause-ready : goal.put_period-requires-clause-ready
put_period-requires-clause-ready g c = not_cert _ _ c.requires.unbroken.to

pub returns-in-Err : goal.returns-in-Err
returns-in-Err g c = λ before earlier reader accepted read none.
    part-refused earlier _ c.project-project.ensures.is_sim accepted _ before _ read none _ c.in-Err.cause
    (ap (λ (r : Row). r.number) c.row.ensures) c.in-Err.ensures.refused

pub returns-in-Ok-put_period : goal.returns-in-Ok-put_period
returns-in-Ok-put_period g c = λ before earlier reader accepted read none.
    let put = c.in-Ok-put_period.ensures (standing_of earlier)
    (begins-there earlier _ c.project-project.ensures.is_sim accepted) in
    did-there earlier _ c.project-project.ensures.is_sim accepted _ before _ read none _ refl put.1.1.rest_stays
    c.in-Ok.ensures.good put.0 put.1.0 (put-in _ reader reader _ _ _ _ c.requires.unbroken put.1.1)

pub returns-in-Err-put_period : goal.returns-in-Err-put_period
returns-in-Err-put_period g c = λ before earlier reader accepted read none.
    let put = c.in-Err-put_period.ensures (standing_of earlier)
    (begins-there earlier _ c.project-project.ensures.is_sim accepted) in
    lost-there earlier _ c.project-project.ensures.is_sim accepted _ before _ read none _ refl put.1.1.rest_stays
    c.in-Ok.ensures.good put.0 put.1.0 (Output c.in-Err-put_period.fault)
    (put-cut-off _ c.in-Err-put_period.fault reader reader _ _ _ _ c.requires.unbroken put.1.1)
