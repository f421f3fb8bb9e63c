-- What a pass leaves at each of its ends.
use Rattle.std.proofs.Common.{◌≡◌, ◌∙◌, [], ap, sym, subst, rules}
use Rattle.hyd_io.specs.declared.desk.Faults.{Faults}
use Rattle.hyd_io.specs.DeskBytes.{where_told, file_at, content_of}
use Rattle.hyd_io.specs.DeskCounts.{with_created}
use Rattle.hyd_laws_at_scale.specs.Scales.{parts_of}
use Rattle.hyd_spec.specs.ProgramTypes.{Project}
use Rattle.std.specs.Prelude.{Ok, Err}
use Rattle.hyd_command_answers.specs.declared.status.Status.{Status}
use Rattle.hyd_run.specs.Pens.{told}
use Rattle.hyd_witness_stream.specs.WitnessPen.{Rose}
use Rattle.hyd_written_witnesses.specs.Statuses.{status_of_search_fault}
use Rattle.hyd_written_witnesses.specs.WitnessAnswers.{ends_at}
use Rattle.hyd_written_witnesses.specs.WrittenPasses.{Passed, OpensInPasses}
use Rattle.hyd_written_witnesses.proofs.StatusesOfWitness.{is_fault_status, fault_cause}
use Rattle.hyd_written_witnesses.proofs.PassLemmas.{seen_of, front_at, created_so}
use Rattle.hyd_written_witnesses.proofs.PassLemmas.{pass_ended, pass_broken_off}
use Rattle.hyd_written_witnesses.proofs.PassesInTurn.{opens_once, breaks_off_once, opens_alone, creates_nothing}
use Rattle.hyd_written_witnesses.proofs.passes.write_pass.Goals as goal

-- ---- the search came to its end

pub returns-in-Ok-clause-passed : goal.returns-in-Ok-clause-passed
returns-in-Ok-clause-passed g c =
    let S = parts_of c.args.scale in
    let project = c.begin.new.self.sim.project in
    let start = told g.D.Desk.files g.D.Desk.rest g.D.Desk.written g.D.Desk.printed g.D.Desk.target g.D.Desk.ready
    g.D.Desk.counts g.D.Desk.openings c.args.desk.now in
    let opened = told g.D.Desk.files g.D.Desk.rest g.D.Desk.written g.D.Desk.printed g.D.Desk.target g.D.Desk.ready
    g.D.Desk.counts g.D.Desk.openings c.open.new.self in
    let created = told g.D.Desk.files g.D.Desk.rest g.D.Desk.written g.D.Desk.printed g.D.Desk.target g.D.Desk.ready
    g.D.Desk.counts g.D.Desk.openings c.create.new.self in
    let after = told g.D.Desk.files g.D.Desk.rest g.D.Desk.written g.D.Desk.printed g.D.Desk.target g.D.Desk.ready
    g.D.Desk.counts g.D.Desk.openings c.search_witness.new.desk in
    let rest : g.D.Desk.rest c.open.new.self ≡ file_at (g.D.Desk.files c.args.desk.now) c.args.cert.now =
    search rules in
    let begun : g.D.Desk.written c.create.new.self ≡ where_told (g.D.Desk.files c.open.new.self) [] = search rules in
    let target : g.D.Desk.target c.create.new.self ≡ where_told (g.D.Desk.files c.open.new.self) c.args.out.now =
    search rules in
    let content : after.written ≡ content_of after.files after.target =
    g.met.D.Desk.is_content c.search_witness.new.desk in
    let steady : g.D.Desk.counts c.create.new.self ≡ g.D.Desk.counts c.open.new.self = search rules in
    let steady_first : g.D.Desk.counts c.open.new.self ≡ g.D.Desk.counts c.args.desk.now = search rules in
    subst (λ (p : Project). Passed p c.args.cert.now c.args.out.now (ends_at p S) (Ok c.in-Ok.end) (seen_of start)
    (seen_of after) start.counts after.counts) c.begin.ensures.project
    (pass_ended project c.args.cert.now c.args.out.now (ends_at project S) (seen_of start) created after start.counts
    after.counts (created_so c.args.out.now start opened created c.open.ensures.files_stay c.open.ensures.printed_stays
    begun target c.create.ensures.printed_stays c.create.ensures.still_told c.create.ensures.others)
    c.search_witness.ensures.leaves content
    (front_at project S created.written after.written c.requires.scale (c.search_witness.ensures.witness S
    c.begin.ensures.start c.requires.scale)) c.in-Ok.end
    (λ certificate is_told. c.in-Ok.ensures.ends S c.begin.ensures.start c.requires.scale certificate
    (c.create.ensures.rest_stays ∙ (rest ∙ is_told)))
    (c.in-Ok.ensures.steady ∙ (steady ∙ steady_first)))

pub returns-in-Ok-clause-opens : goal.returns-in-Ok-clause-opens
returns-in-Ok-clause-opens g c =
    opens_once c.in-Ok.end (g.D.Desk.openings c.args.desk.now) (g.D.Desk.openings c.search_witness.new.desk)
    (c.search_witness.ensures.leaves.openings_stay ∙ (c.create.ensures.creates_once
    ∙ ap with_created c.open.ensures.opens_once))

-- ---- a fault broke the search off

pub returns-in-Err-clause-passed : goal.returns-in-Err-clause-passed
returns-in-Err-clause-passed g c =
    let S = parts_of c.args.scale in
    let project = c.begin.new.self.sim.project in
    let start = told g.D.Desk.files g.D.Desk.rest g.D.Desk.written g.D.Desk.printed g.D.Desk.target g.D.Desk.ready
    g.D.Desk.counts g.D.Desk.openings c.args.desk.now in
    let opened = told g.D.Desk.files g.D.Desk.rest g.D.Desk.written g.D.Desk.printed g.D.Desk.target g.D.Desk.ready
    g.D.Desk.counts g.D.Desk.openings c.open.new.self in
    let created = told g.D.Desk.files g.D.Desk.rest g.D.Desk.written g.D.Desk.printed g.D.Desk.target g.D.Desk.ready
    g.D.Desk.counts g.D.Desk.openings c.create.new.self in
    let after = told g.D.Desk.files g.D.Desk.rest g.D.Desk.written g.D.Desk.printed g.D.Desk.target g.D.Desk.ready
    g.D.Desk.counts g.D.Desk.openings c.search_witness.new.desk in
    let begun : g.D.Desk.written c.create.new.self ≡ where_told (g.D.Desk.files c.open.new.self) [] = search rules in
    let target : g.D.Desk.target c.create.new.self ≡ where_told (g.D.Desk.files c.open.new.self) c.args.out.now =
    search rules in
    let content : after.written ≡ content_of after.files after.target =
    g.met.D.Desk.is_content c.search_witness.new.desk in
    let steady : g.D.Desk.counts c.create.new.self ≡ g.D.Desk.counts c.open.new.self = search rules in
    let steady_first : g.D.Desk.counts c.open.new.self ≡ g.D.Desk.counts c.args.desk.now = search rules in
    let status = status_of_search_fault c.in-Err.fault in
    let rose : Rose c.in-Err.fault start.counts after.counts =
    subst (λ (f : Faults). Rose c.in-Err.fault f after.counts) (steady ∙ steady_first) c.in-Err.ensures.cause in
    subst (λ (s : Status). Passed c.args.bench.now.sim.project c.args.cert.now c.args.out.now
    (ends_at c.args.bench.now.sim.project S) (Err s) (seen_of start) (seen_of after) start.counts after.counts)
    (sym c.status_of_fault.ensures)
    (subst (λ (p : Project). Passed p c.args.cert.now c.args.out.now (ends_at p S) (Err status) (seen_of start)
    (seen_of after) start.counts after.counts) c.begin.ensures.project
    (pass_broken_off project c.args.cert.now c.args.out.now (ends_at project S) (seen_of start) created after
    start.counts after.counts (created_so c.args.out.now start opened created c.open.ensures.files_stay
    c.open.ensures.printed_stays begun target c.create.ensures.printed_stays c.create.ensures.still_told
    c.create.ensures.others) c.search_witness.ensures.leaves content
    (front_at project S created.written after.written c.requires.scale (c.search_witness.ensures.witness S
    c.begin.ensures.start c.requires.scale)) status (is_fault_status c.in-Err.fault)
    (fault_cause c.in-Err.fault start.counts after.counts rose)))

pub returns-in-Err-clause-opens : goal.returns-in-Err-clause-opens
returns-in-Err-clause-opens g c =
    subst (λ (s : Status). OpensInPasses 1 (Err s) (g.D.Desk.openings c.args.desk.now)
    (g.D.Desk.openings c.search_witness.new.desk)) (sym c.status_of_fault.ensures)
    (breaks_off_once c.in-Err.fault (g.D.Desk.openings c.args.desk.now) (g.D.Desk.openings c.search_witness.new.desk)
    (c.search_witness.ensures.leaves.openings_stay ∙ (c.create.ensures.creates_once
    ∙ ap with_created c.open.ensures.opens_once)))

-- ---- CERT couldn't be opened, or OUT created

pub returns-then-is_err-clause-opens : goal.returns-then-is_err-clause-opens
returns-then-is_err-clause-opens g c =
    opens_alone (g.D.Desk.openings c.args.desk.now) (g.D.Desk.openings c.open.new.self) c.open.ensures.opens_once

pub returns-then-is_err-2-clause-opens : goal.returns-then-is_err-2-clause-opens
returns-then-is_err-2-clause-opens g c =
    creates_nothing (g.D.Desk.openings c.args.desk.now) (g.D.Desk.openings c.create.new.self)
    (c.create.ensures.creates_once ∙ ap with_created c.open.ensures.opens_once)
