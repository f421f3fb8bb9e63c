use Rattle.std.proofs.Common.{◌≡◌, sym, ap, ◌∙◌}
use Rattle.std.specs.Prelude.{length}
use Rattle.hyd_cert.specs.Lines.{Header}
use Rattle.hyd_cert.specs.VectorsOfRecord.{behind_two}
use Rattle.hyd_cert.specs.RecordView.{row_of}
use Rattle.hyd_cert.proofs.VectorLemmas.{problems_length}
use Rattle.hyd_period_network.specs.NetAsPeriodNetwork.{grid_of}
use Rattle.hyd_sim.specs.RunView.{standing_for}
use Rattle.hyd_sim.proofs.TakenAndRefusedRecords.{shares-taken, fails-refused}
use Rattle.hyd_sim.proofs.StopsAndTightRecords.{net-junctions, certificates-of}
use Rattle.hyd_sim.proofs.handed_in_record.certify.Goals as goal

pub check_vectors-requires : goal.check_vectors-requires
check_vectors-requires c = record {
  fits = record {
    junctions = c.requires.junctions ∙ net-junctions c.args.project.now c.args.net.now c.requires.of;
    tanks = c.requires.tanks ∙ sym c.requires.of.each_tank;
  };
}

pub take_vectors-requires-clause-junctions : goal.take_vectors-requires-clause-junctions
take_vectors-requires-clause-junctions c =
    c.requires.junctions ∙ sym (ap (λ (h : Header). h.junctions) c.requires.header)

pub take_vectors-requires-clause-tanks : goal.take_vectors-requires-clause-tanks
take_vectors-requires-clause-tanks c = c.requires.tanks ∙ sym (ap (λ (h : Header). h.tanks) c.requires.header)

pub returns-in-Err-clause-refused : goal.returns-in-Err-clause-refused
returns-in-Err-clause-refused c =
    fails-refused c.args.project.now (standing_for c.args.standing.now) (grid_of c.args.net.now)
    (row_of c.args.given.now) (length c.args.net.now.tanks) c.in-Err.failing c.requires.of.each_tank
    c.requires.has_grid c.in-Err.ensures.fails

pub returns-clause-certificates : goal.returns-clause-certificates
returns-clause-certificates c =
    let net = c.args.net.now in
    let given = c.args.given.now in
    let pinned : length (row_of given).pinned ≡ length net.tanks =
    problems_length given.junctions given.tanks (behind_two given.junctions given.vectors.list)
    ∙ (c.requires.tanks ∙ sym c.requires.of.each_tank) in
    certificates-of c.args.project.now (grid_of net) (length net.tanks) (row_of given) c.requires.of.each_tank pinned
    c.in_default.ensures.certificates

pub returns-clause-shares : goal.returns-clause-shares
returns-clause-shares c =
    shares-taken c.args.row.now c.args.given.now c.take_vectors.new.row
    (c.requires.junctions ∙ sym (ap (λ (h : Header). h.junctions) c.requires.header))
    (c.requires.tanks ∙ sym (ap (λ (h : Header). h.tanks) c.requires.header)) c.take_vectors.ensures.vectors
    (ap (λ (h : Header). h.junctions) c.take_vectors.ensures.stays.header)
    (ap (λ (h : Header). h.tanks) c.take_vectors.ensures.stays.header)
