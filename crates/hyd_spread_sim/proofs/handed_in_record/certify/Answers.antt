use Rattle.std.proofs.Common.{ap, sym, ◌∙◌}
use Rattle.hyd_cert.specs.Lines.{Header}
use Rattle.hyd_open_certificates.specs.OpenRowView.{open_record_of}
use Rattle.hyd_open_sim_start.specs.StandingsOfOpenRuns.{standing_for}
use Rattle.hyd_sim.proofs.TakenAndRefusedRecords.{shares-taken}
use Rattle.hyd_spread_networks.specs.NetsOfSpreads.{pair_of}
use Rattle.hyd_spread_sim.proofs.HandedInOverSpreads.{fits-both, certificates-over, fails-refused-over}
use Rattle.hyd_spread_sim.proofs.handed_in_record.certify.Goals as goal

pub check_vectors_over-requires : goal.check_vectors_over-requires
check_vectors_over-requires c = record {
  fits = fits-both c.args.project.now c.args.nets.now c.args.given.now c.requires.of c.requires.given;
}

pub take_vectors-requires-clause-junctions : goal.take_vectors-requires-clause-junctions
take_vectors-requires-clause-junctions c =
    ap (λ (h : Header). h.junctions) (c.requires.given ∙ sym c.requires.header)

pub take_vectors-requires-clause-tanks : goal.take_vectors-requires-clause-tanks
take_vectors-requires-clause-tanks c = ap (λ (h : Header). h.tanks) (c.requires.given ∙ sym c.requires.header)

pub returns-in-Err-clause-refused : goal.returns-in-Err-clause-refused
returns-in-Err-clause-refused c =
    fails-refused-over c.args.project.now c.args.nets.now.spread (standing_for c.args.standing.now)
    (open_record_of c.args.given.now) (pair_of c.args.nets.now) c.requires.has_pair c.args.given.now.row.tanks
    c.in-Err.failing (ap (λ (h : Header). h.tanks) c.requires.given) c.in-Err.ensures.fails

pub returns-clause-certificates : goal.returns-clause-certificates
returns-clause-certificates c =
    certificates-over c.args.project.now (pair_of c.args.nets.now) c.args.given.now.row
    (ap (λ (h : Header). h.tanks) c.requires.given) c.in_default.ensures.certificates

pub returns-clause-shares : goal.returns-clause-shares
returns-clause-shares c =
    shares-taken c.args.found.now.row c.args.given.now.row c.take_vectors.new.row
    (ap (λ (h : Header). h.junctions) (c.requires.given ∙ sym c.requires.header))
    (ap (λ (h : Header). h.tanks) (c.requires.given ∙ sym c.requires.header)) c.take_vectors.ensures.vectors
    (ap (λ (h : Header). h.junctions) c.take_vectors.ensures.stays.header)
    (ap (λ (h : Header). h.tanks) c.take_vectors.ensures.stays.header)
