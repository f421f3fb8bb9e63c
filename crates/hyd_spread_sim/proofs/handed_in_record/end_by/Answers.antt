use Rattle.std.proofs.Common.{◌≡◌, arith, sym, ap, ◌∙◌}
use Rattle.hyd_spec_certificates.specs.declared.Side.TheVariants.{Lower}
use Rattle.hyd_spec_spread_refusals.specs.RefusedSpreadRecords.{HasItsPair}
use Rattle.hyd_cert.specs.Lines.{Header}
use Rattle.hyd_cert.specs.RecordView.{row_of}
use Rattle.hyd_cert.specs.declared.record.Record.{Record as Row}
use Rattle.hyd_open_certificates.specs.OpenLines.{open_header}
use Rattle.hyd_open_certificates.specs.OpenRowView.{open_record_of}
use Rattle.hyd_open_certificates.specs.declared.open_row.OpenRow.{OpenRow}
use Rattle.hyd_open_sim.proofs.TakenAndRefusedRecords.{not-ok, same-found}
use Rattle.hyd_open_sim_start.specs.StandingsOfOpenRuns.{known_for, standing_for}
use Rattle.hyd_sim.proofs.LinkStatesAtStart.{not-err}
use Rattle.hyd_sim.proofs.TakenAndRefusedRecords.{shares-again}
use Rattle.hyd_spread_networks.specs.NetsOfSpreads.{pair_of}
use Rattle.hyd_spread_sim.proofs.HandedInOverSpreads.{certificates-shared-over, open-refused-over}
use Rattle.hyd_spread_sim.proofs.HandedInOverSpreads.{lengths-refused-over}
use Rattle.hyd_spread_sim.proofs.PeriodsOverSpreads.{made-of}
use Rattle.hyd_spread_sim.proofs.handed_in_record.end_by.Goals as goal

pub certify-requires-clause-has_pair : goal.certify-requires-clause-has_pair
certify-requires-clause-has_pair c = record {
  in_place = c.requires.in_place;
  in_range = c.requires.started.in_range;
  are_pair = c.requires.started.are_pair;
}

pub end_period-requires-clause-pair : goal.end_period-requires-clause-pair
end_period-requires-clause-pair c =
    c.outermost_in_order.ensures c.args.project.now c.args.nets.now.spread c.requires.spread
    (known_for c.args.standing.now) (pair_of c.args.nets.now) c.requires.started.are_pair

pub end_period-requires-clause-levels : goal.end_period-requires-clause-levels
end_period-requires-clause-levels c = c.requires.started.order Lower

pub end_period-requires-clause-certificates : goal.end_period-requires-clause-certificates
end_period-requires-clause-certificates c =
    certificates-shared-over c.args.project.now (pair_of c.args.nets.now) (row_of c.args.given.now.row)
    (row_of c.certify.new.found.row) c.in_ok-certify.ensures.shares c.in_ok-certify.ensures.certificates

pub end_period-requires-clause-header : goal.end_period-requires-clause-header
end_period-requires-clause-header c =
    ap (λ (h : Header). open_header h.junctions h.tanks) c.certify.ensures.stays.header ∙ c.requires.header

pub returns-then-is_err-clause-refused : goal.returns-then-is_err-clause-refused
returns-then-is_err-clause-refused c =
    let project = c.args.project.now in
    let spread = c.args.nets.now.spread in
    let standing = standing_for c.args.standing.now in
    let pair = pair_of c.args.nets.now in
    let given = open_record_of c.args.given.now in
    let has : HasItsPair project spread standing pair given = record {
      in_place = c.requires.in_place;
      in_range = c.requires.started.in_range;
      are_pair = c.requires.started.are_pair;
    } in
    open-refused-over project spread standing given pair has c.in_ok-certify.ensures.certificates
    (not-ok _ c.end_period.result (sym c.is_err.ensures.value ∙ c.if-is_err.true)
    (c.end_period.ensures.matter (omega arith)) given c.in_ok-certify.ensures.shares)

pub returns-then-has_other_lengths-clause-refused : goal.returns-then-has_other_lengths-clause-refused
returns-then-has_other_lengths-clause-refused c =
    let project = c.args.project.now in
    let spread = c.args.nets.now.spread in
    let standing = standing_for c.args.standing.now in
    let pair = pair_of c.args.nets.now in
    let given = open_record_of c.args.given.now in
    let has : HasItsPair project spread standing pair given = record {
      in_place = c.requires.in_place;
      in_range = c.requires.started.in_range;
      are_pair = c.requires.started.are_pair;
    } in
    let done = sym c.is_err.ensures.value ∙ c.if-is_err.false in
    lengths-refused-over project spread standing given pair has c.in_ok-certify.ensures.certificates
    (not-err _ c.end_period.result done c.end_period.ensures.decided given c.in_ok-certify.ensures.shares)
    (not-err _ c.end_period.result done c.end_period.ensures.lengths given c.in_ok-certify.ensures.shares
    (λ has. c.has_other_lengths.ensures.other c.if-has_other_lengths.true (sym has.0, sym has.1)))

pub returns-clause-made : goal.returns-clause-made
returns-clause-made c =
    let project = c.args.project.now in
    let here = c.args.standing.now in
    let nets = c.args.nets.now in
    let given = row_of c.args.given.now.row in
    let found = c.end_period.new.found in
    let same : found.row ≡ record c.certify.new.found.row { length = found.row.length } =
    ap (λ (f : OpenRow). f.row) c.end_period.ensures.found in
    let share = shares-again given c.certify.new.found.row found.row c.in_ok-certify.ensures.shares same in (
      _,
      made-of project _ here nets c.args.found.now found c.args.facts.now c.end_period.new.facts
          c.end_period.new.close c.requires.started c.requires.in_place.unfinished
          (ap (λ (r : Row). r.number) same ∙ c.certify.ensures.stays.number)
          (ap (λ (r : Row). r.time) same ∙ c.certify.ensures.stays.time)
          (ap (λ (f : OpenRow). f.late) c.end_period.ensures.found
          ∙ ap (λ (f : OpenRow). f.late) c.certify.ensures.same)
          c.end_period.ensures.links
          (certificates-shared-over project (pair_of nets) given (row_of found.row) share
          c.in_ok-certify.ensures.certificates)
          (not-err _ c.end_period.result (sym c.is_err.ensures.value ∙ c.if-is_err.false) c.end_period.ensures.over),
    )

pub returns-clause-found : goal.returns-clause-found
returns-clause-found c =
    let given = c.args.given.now in
    let found = c.end_period.new.found in
    let place = c.requires.in_place.due in
    let started = c.requires.started in
    let same : found.row ≡ record c.certify.new.found.row { length = found.row.length } =
    ap (λ (f : OpenRow). f.row) c.end_period.ensures.found in
    let share = shares-again (row_of given.row) c.certify.new.found.row found.row c.in_ok-certify.ensures.shares same in
    let has = c.has_other_lengths.ensures.same c.if-has_other_lengths.false in
    same-found (open_record_of found) (open_record_of given) share
    (ap (λ (r : Row). r.number) same ∙ (c.certify.ensures.stays.number ∙ (started.number ∙ sym place.number)))
    (ap (λ (r : Row). r.time) same ∙ (c.certify.ensures.stays.time ∙ (started.time ∙ sym place.time)))
    (ap (λ (f : OpenRow). f.late) c.end_period.ensures.found
    ∙ (ap (λ (f : OpenRow). f.late) c.certify.ensures.same ∙ (started.late ∙ sym place.late))) has.0 has.1
