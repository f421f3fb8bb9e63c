use Rattle.std.proofs.Common.{◌≡◌, sym, ap, ◌∙◌}
use Rattle.hyd_cert.specs.RecordView.{row_of}
use Rattle.hyd_cert.specs.declared.record.Record.{Record as Row}
use Rattle.hyd_period_network.specs.NetAsPeriodNetwork.{grid_of}
use Rattle.hyd_sim.specs.PeriodAttempt.{IsMade}
use Rattle.hyd_sim.specs.RunView.{standing_for}
use Rattle.hyd_sim.proofs.PeriodsByFoundVectors.{made-of}
use Rattle.hyd_sim.proofs.ProposedRecordIsTaken.{same-record}
use Rattle.hyd_sim.proofs.TakenAndRefusedRecords.{certificates-shared, shares-again, some-open-refused}
use Rattle.hyd_sim.proofs.TakenAndRefusedRecords.{other-length-refused}
use Rattle.hyd_sim.proofs.LinkStatesAtStart.{not-err}
use Rattle.hyd_sim.proofs.handed_in_record.end_by.Goals as goal

pub certify-requires-clause-has_grid : goal.certify-requires-clause-has_grid
certify-requires-clause-has_grid c = record {
  in_place = c.requires.in_place;
  in_range = c.requires.started.in_range;
  is_grid = c.requires.started.is_grid;
}

pub end_period-requires-clause-certificates : goal.end_period-requires-clause-certificates
end_period-requires-clause-certificates c =
    certificates-shared c.args.project.now (grid_of c.args.net.now) (row_of c.args.given.now) (row_of c.certify.new.row)
    c.in_ok-certify.ensures.shares c.in_ok-certify.ensures.certificates

pub end_period-requires-clause-header : goal.end_period-requires-clause-header
end_period-requires-clause-header c = c.certify.ensures.stays.header ∙ c.requires.header

pub returns-then-is_err-clause-refused : goal.returns-then-is_err-clause-refused
returns-then-is_err-clause-refused c =
    some-open-refused c.args.project.now (standing_for c.args.standing.now) (grid_of c.args.net.now)
    (row_of c.args.given.now) (row_of c.certify.new.row) c.end_period.result
    (sym c.is_err.ensures.value ∙ c.if-is_err.true) c.end_period.ensures.open c.in_ok-certify.ensures.shares
    (record {
      in_place = c.requires.in_place;
      in_range = c.requires.started.in_range;
      is_grid = c.requires.started.is_grid;
    }) c.in_ok-certify.ensures.certificates

pub returns-then-row-given-clause-refused : goal.returns-then-row-given-clause-refused
returns-then-row-given-clause-refused c =
    let project = c.args.project.now in
    let here = c.args.standing.now in
    let net = c.args.net.now in
    let given = row_of c.args.given.now in
    let row = c.end_period.new.row in
    let share = shares-again given c.certify.new.row row c.in_ok-certify.ensures.shares c.end_period.ensures.row in
    let made : IsMade project here net row c.end_period.new.facts c.end_period.new.close =
    made-of project here net c.args.row.now row c.args.facts.now c.end_period.new.facts c.end_period.new.close
    c.requires.started c.requires.in_place.unfinished
    (ap (λ (r : Row). r.number) c.end_period.ensures.row ∙ c.certify.ensures.stays.number)
    (ap (λ (r : Row). r.time) c.end_period.ensures.row ∙ c.certify.ensures.stays.time) c.end_period.ensures.links
    (certificates-shared project (grid_of net) given (row_of row) share c.in_ok-certify.ensures.certificates)
    (not-err _ c.end_period.result (sym c.is_err.ensures.value ∙ c.if-is_err.false) c.end_period.ensures.over) in
    other-length-refused project (standing_for here) (grid_of net) given (row_of row) _ made.valid share
    (c.requires.in_place.due.number ∙ sym made.valid.number) (c.requires.in_place.due.time ∙ sym made.valid.time)
    (λ e. c.if-row-given.true (sym e))

pub returns-clause-made : goal.returns-clause-made
returns-clause-made c =
    let project = c.args.project.now in
    let here = c.args.standing.now in
    let net = c.args.net.now in
    let given = row_of c.args.given.now in
    let row = c.end_period.new.row in
    let share = shares-again given c.certify.new.row row c.in_ok-certify.ensures.shares c.end_period.ensures.row in
    made-of project here net c.args.row.now row c.args.facts.now c.end_period.new.facts c.end_period.new.close
    c.requires.started c.requires.in_place.unfinished
    (ap (λ (r : Row). r.number) c.end_period.ensures.row ∙ c.certify.ensures.stays.number)
    (ap (λ (r : Row). r.time) c.end_period.ensures.row ∙ c.certify.ensures.stays.time) c.end_period.ensures.links
    (certificates-shared project (grid_of net) given (row_of row) share c.in_ok-certify.ensures.certificates)
    (not-err _ c.end_period.result (sym c.is_err.ensures.value ∙ c.if-is_err.false) c.end_period.ensures.over)

pub returns-clause-row : goal.returns-clause-row
returns-clause-row c =
    let given = c.args.given.now in
    let row = c.end_period.new.row in
    let share = shares-again (row_of given) c.certify.new.row row c.in_ok-certify.ensures.shares
    c.end_period.ensures.row in
    let number : row.number ≡ given.number = ap (λ (r : Row). r.number) c.end_period.ensures.row
    ∙ (c.certify.ensures.stays.number ∙ (c.requires.started.number ∙ sym c.requires.in_place.due.number)) in
    let time : row.time ≡ given.time = ap (λ (r : Row). r.time) c.end_period.ensures.row
    ∙ (c.certify.ensures.stays.time ∙ (c.requires.started.time ∙ sym c.requires.in_place.due.time)) in
    sym (same-record (row_of row) (row_of given) share (sym number) (sym time) (sym c.if-row-given.false))
