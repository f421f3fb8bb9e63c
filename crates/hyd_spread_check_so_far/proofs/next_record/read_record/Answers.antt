-- What was read, or what ends the records.
use Rattle.std.proofs.Common.{◌∙◌, refl}
use Rattle.hyd_cert_check.specs.declared.outcome.CheckFault.TheVariants.{Read}
use Rattle.hyd_cert_check.proofs.PenLemmas.{read-puts, read-cut-off}
use Rattle.hyd_spec_open_checks.specs.OpenChecks.{open_header_for}
use Rattle.hyd_spread_check_so_far.proofs.SpreadReading.{is-read, end-is, grammar-is, counts-is}
use Rattle.hyd_spread_check_so_far.proofs.next_record.read_record.Goals as goal

pub returns-in-Ok-Record-clause-gives : goal.returns-in-Ok-Record-clause-gives
returns-in-Ok-Record-clause-gives g c = λ project spread left pen same counted finished unbroken.
    let e = c.next.ensures in
    let r = c.in-Ok-Record in
    let going = c.requires in (
      is-read (open_header_for project) c.next.new.into _ _ (e.header ∙ same)
          (rw r.field-0-is at (r.ensures.record going)) (rw r.field-0-is at (r.ensures.row going))
          (rw r.field-0-is at (r.ensures.line going)) (rw r.field-0-is at (r.ensures.stand going)),
      read-puts _ _ unbroken refl e.stays.printed_stays r.ensures.steady (record {
        files_stay = e.stays.files_stay;
        written_stays = e.stays.written_stays;
        target_stays = e.stays.target_stays;
        ready_stays = e.stays.ready_stays;
        openings_stay = e.stays.openings_stay;
      }),
    )

pub returns-in-Ok-End-clause-gives : goal.returns-in-Ok-End-clause-gives
returns-in-Ok-End-clause-gives g c = λ project spread left pen same counted finished unbroken.
    let e = c.next.ensures in
    let r = c.in-Ok-End in
    let going = c.requires in (
      c.judge_end.ensures project spread left _ _ counted finished
          (end-is project _ _ _ _ _ (e.header ∙ same) (rw r.field-0-is at (r.ensures.end going))
          (rw r.field-0-is at (r.ensures.end_line going)) (rw r.field-0-is at (r.ensures.end_fits going)))
          c.line.ensures,
      read-puts _ _ unbroken refl e.stays.printed_stays r.ensures.steady (record {
        files_stay = e.stays.files_stay;
        written_stays = e.stays.written_stays;
        target_stays = e.stays.target_stays;
        ready_stays = e.stays.ready_stays;
        openings_stay = e.stays.openings_stay;
      }),
    )

pub returns-in-Err-Read-clause-gives : goal.returns-in-Err-Read-clause-gives
returns-in-Err-Read-clause-gives g c = λ project spread left pen same counted finished unbroken.
    let e = c.next.ensures in
    let fault = rw c.in-Err-Read.field-0-is at (c.in-Err-Read.ensures.fault c.requires) in
    read-cut-off Read _ _ e.stays.printed_stays fault (record {
      files_stay = e.stays.files_stay;
      written_stays = e.stays.written_stays;
      target_stays = e.stays.target_stays;
      ready_stays = e.stays.ready_stays;
      openings_stay = e.stays.openings_stay;
    })

pub returns-in-Err-Grammar-clause-gives : goal.returns-in-Err-Grammar-clause-gives
returns-in-Err-Grammar-clause-gives g c = λ project spread left pen same counted finished unbroken.
    let e = c.next.ensures in
    let fault = rw c.in-Err-Grammar.field-0-is at (c.in-Err-Grammar.ensures.fault c.requires) in
    let lacks = rw c.in-Err-Grammar.field-0-is at (c.in-Err-Grammar.ensures.no_record c.requires) in (
      grammar-is project _ c.in-Err-Grammar.line _ _ _ _ same fault lacks,
      read-puts _ _ unbroken refl e.stays.printed_stays fault.1.2 (record {
        files_stay = e.stays.files_stay;
        written_stays = e.stays.written_stays;
        target_stays = e.stays.target_stays;
        ready_stays = e.stays.ready_stays;
        openings_stay = e.stays.openings_stay;
      }),
    )

pub returns-in-Err-Count-clause-gives : goal.returns-in-Err-Count-clause-gives
returns-in-Err-Count-clause-gives g c = λ project spread left pen same counted finished unbroken.
    let e = c.next.ensures in
    let fault = rw c.in-Err-Count.field-0-is at (c.in-Err-Count.ensures.fault c.requires) in (
      counts-is project _ c.in-Err-Count.line _ _ _ _ same fault,
      read-puts _ _ unbroken refl e.stays.printed_stays fault.3 (record {
        files_stay = e.stays.files_stay;
        written_stays = e.stays.written_stays;
        target_stays = e.stays.target_stays;
        ready_stays = e.stays.ready_stays;
        openings_stay = e.stays.openings_stay;
      }),
    )
