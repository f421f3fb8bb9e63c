use Rattle.std.proofs.Common.{◌≡◌, length, ap, sym, ◌∙◌}
use Rattle.hyd_cert.specs.Lines.{Header}
use Rattle.hyd_cert.specs.RecordView.{row_of}
use Rattle.hyd_cert.specs.VectorsOfRecord.{behind_two}
use Rattle.hyd_cert.proofs.VectorLemmas.{problems_length}
use Rattle.hyd_open_certificates.specs.OpenRowView.{open_record_of}
use Rattle.hyd_period_network.specs.NetAsPeriodNetwork.{grid_of}
use Rattle.hyd_open_sim_start.specs.StandingsOfOpenRuns.{standing_for}
use Rattle.hyd_sim.proofs.StopsAndTightRecords.{certificates-of, net-junctions}
use Rattle.hyd_sim.proofs.TakenAndRefusedRecords.{shares-taken}
use Rattle.hyd_open_sim.proofs.TakenAndRefusedRecords.{fails-refused}
use Rattle.hyd_open_sim.proofs.handed_in_record.certify.Goals as goal

pub check_vectors-requires : goal.check_vectors-requires
check_vectors-requires c = record {
  fits = record {
    junctions = ap (λ (h : Header). h.junctions) c.requires.given
        ∙ net-junctions c.args.project.now c.args.net.now c.requires.of;
    tanks = ap (λ (h : Header). h.tanks) c.requires.given ∙ sym c.requires.of.each_tank;
  };
}

pub take_vectors-requires-clause-junctions : goal.take_vectors-requires-clause-junctions
take_vectors-requires-clause-junctions c =
    ap (λ (h : Header). h.junctions) (c.requires.given ∙ sym c.requires.header)

pub take_vectors-requires-clause-tanks : goal.take_vectors-requires-clause-tanks
take_vectors-requires-clause-tanks c = ap (λ (h : Header). h.tanks) (c.requires.given ∙ sym c.requires.header)

pub returns-in-Err-clause-refused : goal.returns-in-Err-clause-refused
returns-in-Err-clause-refused c =
    fails-refused c.args.project.now (standing_for c.args.standing.now) (open_record_of c.args.given.now)
    (grid_of c.args.net.now) c.requires.has_grid (length c.args.net.now.tanks) c.in-Err.failing
    c.requires.of.each_tank c.in-Err.ensures.fails

pub returns-clause-certificates : goal.returns-clause-certificates
returns-clause-certificates c =
    let net = c.args.net.now in
    let given = c.args.given.now.row in
    let pinned : length (row_of given).pinned ≡ length net.tanks =
    problems_length given.junctions given.tanks (behind_two given.junctions given.vectors.list)
    ∙ (ap (λ (h : Header). h.tanks) c.requires.given ∙ sym c.requires.of.each_tank) in
    certificates-of c.args.project.now (grid_of net) (length net.tanks) (row_of given) c.requires.of.each_tank pinned
    c.in_default.ensures.certificates

pub returns-clause-shares : goal.returns-clause-shares
returns-clause-shares c =
    shares-taken c.args.found.now.row c.args.given.now.row c.take_vectors.new.row
    (ap (λ (h : Header). h.junctions) (c.requires.given ∙ sym c.requires.header))
    (ap (λ (h : Header). h.tanks) (c.requires.given ∙ sym c.requires.header)) c.take_vectors.ensures.vectors
    (ap (λ (h : Header). h.junctions) c.take_vectors.ensures.stays.header)
    (ap (λ (h : Header). h.tanks) c.take_vectors.ensures.stays.header)
