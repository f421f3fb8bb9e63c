-- The first line, the records, and the last line.
use Rattle.std.proofs.Common.{sym, subst, refl}
use Rattle.hyd_cert.specs.ReaderView.{IsGoing}
use Rattle.hyd_sim.specs.RunView.{standing_of}
use Rattle.hyd_cert_check.specs.declared.outcome.CheckFault.TheVariants.{Output}
use Rattle.hyd_cert_check.proofs.PenLemmas.{not_cert, put-in, put-cut-off}
use Rattle.hyd_cert_check.proofs.WholeCheckLemmas.{so-far-begun, first-cut-short, ending-puts}
use Rattle.hyd_cert_check.proofs.whole_check.put_check.Goals as goal

pub put_first-requires : goal.put_first-requires
put_first-requires g c = not_cert _ _ c.requires.unbroken.to

pub take_records-requires : goal.take_records-requires
take_records-requires g c =
    let r = c.args.reader.now in
    record {
      running = c.requires.running;
      header = c.requires.header;
      part = c.requires.part;
      going = record {
        going = subst IsGoing (sym c.requires.reader.stand) tt;
        pen = (put-in _ r r _ _ _ _ c.requires.unbroken c.in-Ok.ensures).open_still;
      };
    }

pub put_ending-requires : goal.put_ending-requires
put_ending-requires g c = c.in-Ok-take_records.ensures.unbroken

pub returns-in-Err-clause-puts : goal.returns-in-Err-clause-puts
returns-in-Err-clause-puts g c =
    let r = c.args.reader.now in
    first-cut-short c.args.sim.now.project (Output c.in-Err.fault) _ _ c.project-project.ensures.is_sim.sound
    c.requires.reader (put-cut-off _ c.in-Err.fault r r _ _ _ _ c.requires.unbroken c.in-Err.ensures)

pub returns-in-Err-take_records-clause-puts : goal.returns-in-Err-take_records-clause-puts
returns-in-Err-take_records-clause-puts g c =
    let r = c.args.reader.now in
    c.in-Err-take_records.ensures.give _
    (so-far-begun c.args.sim.now.project (standing_of c.args.sim.now) _ _ c.requires.start c.requires.reader refl
    c.in-Ok.ensures.rest_stays (put-in _ r r _ _ _ _ c.requires.unbroken c.in-Ok.ensures))

pub returns-in-Ok-take_records-clause-puts : goal.returns-in-Ok-take_records-clause-puts
returns-in-Ok-take_records-clause-puts g c =
    let r = c.args.reader.now in
    let project = c.args.sim.now.project in
    let begun = so-far-begun project (standing_of c.args.sim.now) _ _ c.requires.start c.requires.reader refl
    c.in-Ok.ensures.rest_stays (put-in _ r r _ _ _ _ c.requires.unbroken c.in-Ok.ensures) in
    ending-puts project c.take_records.new.sim.project c.in-Ok-take_records.conclusion
    (standing_of c.take_records.new.sim).number
    c.put_ending.result _ _ _ c.take_records.ensures.project
    (λ x. c.put_ending.ensures x c.take_records.new.reader) (c.in-Ok-take_records.ensures.give _ begun)
