-- What was found in FILE, said of the moment before it was opened.
use Rattle.std.proofs.Common.{◌≡◌, ◌∙◌, subst, rules}
use Rattle.hyd_io.specs.DeskBytes.{file_at}
use Rattle.hyd_witness_commands.proofs.StatusesOfMeet.{finding_answered, reading_failed}
use Rattle.hyd_witness_commands.proofs.command_meet.try_file.Goals as goal

pub returns-in-Ok-clause-tries : goal.returns-in-Ok-clause-tries
returns-in-Ok-clause-tries g c =
    let opened : g.D.Desk.rest c.open.new.self ≡ file_at (g.D.Desk.files c.args.desk.now) c.args.file.now =
    search rules in
    finding_answered c.args.project.now c.args.file.now c.answer_finding.result _ _ _ _ _ _ (record {
      files = c.find.ensures.stays.files_stay ∙ c.open.ensures.files_stay;
      written = c.find.ensures.stays.written_stays ∙ c.open.ensures.written_stays;
      printed = c.find.ensures.stays.printed_stays ∙ c.open.ensures.printed_stays;
    }) (λ witness told. c.answer_finding.ensures.answers witness (c.in-Ok.ensures.found witness (opened ∙ told)))
    c.answer_finding.ensures.leaves c.answer_finding.ensures.is_answer
    (c.find.ensures.stays.openings_stay ∙ c.open.ensures.opens_once) c.answer_finding.ensures.openings_stay

pub returns-in-Err-clause-tries : goal.returns-in-Err-clause-tries
returns-in-Err-clause-tries g c =
    reading_failed c.args.project.now c.args.file.now _ _ _ _ (record {
      files = c.find.ensures.stays.files_stay ∙ c.open.ensures.files_stay;
      written = c.find.ensures.stays.written_stays ∙ c.open.ensures.written_stays;
      printed = c.find.ensures.stays.printed_stays ∙ c.open.ensures.printed_stays;
    }) (c.find.ensures.stays.openings_stay ∙ c.open.ensures.opens_once)
