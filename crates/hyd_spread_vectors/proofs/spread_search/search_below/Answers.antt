use Rattle.std.proofs.Common.{length, sym, ap, ◌∙◌}
use Rattle.hyd_spec_certificates.specs.declared.Problem.{Problem}
use Rattle.hyd_cert.specs.Lines.{Header}
use Rattle.hyd_cert.specs.RecordView.{row_of}
use Rattle.hyd_period_end.specs.OpenMatters.{SharesVectors}
use Rattle.hyd_period_network.specs.NetAsPeriodNetwork.{grid_of}
use Rattle.hyd_period_vectors.specs.SoughtVectors.{IsSought, Comes}
use Rattle.hyd_sim.proofs.TakenAndRefusedRecords.{shares-taken}
use Rattle.hyd_spread_vectors.proofs.FoundOnBoth.{each-shared}
use Rattle.hyd_spread_vectors.proofs.spread_search.search_below.Goals as goal

pub returns-then-alike-clause-found : goal.returns-then-alike-clause-found
returns-then-alike-clause-found g c =
    let net = c.args.net.now in
    let stays = c.take_vectors.ensures.stays in
    each-shared (IsSought c.args.tight (g.F.Finder.told c.args.finder.now) (grid_of net) (length net.tanks))
    (length net.tanks) (row_of c.args.found.now) (row_of c.take_vectors.new.row)
    (shares-taken c.args.held.now c.args.found.now c.take_vectors.new.row c.requires.counts.junctions
    c.requires.counts.tanks c.take_vectors.ensures.vectors (ap (λ (h : Header). h.junctions) stays.header)
    (ap (λ (h : Header). h.tanks) stays.header)) (c.requires.found c.if-alike.true)

pub returns-then-alike-clause-comes : goal.returns-then-alike-clause-comes
returns-then-alike-clause-comes g c =
    let net = c.args.net.now in
    let stays = c.take_vectors.ensures.stays in
    each-shared (Comes c.args.tight (g.F.Finder.told c.args.finder.now) (grid_of net) (length net.tanks)
    c.args.search.now.rounds) (length net.tanks) (row_of c.args.found.now) (row_of c.take_vectors.new.row)
    (shares-taken c.args.held.now c.args.found.now c.take_vectors.new.row c.requires.counts.junctions
    c.requires.counts.tanks c.take_vectors.ensures.vectors (ap (λ (h : Header). h.junctions) stays.header)
    (ap (λ (h : Header). h.tanks) stays.header)) (c.requires.come c.if-alike.true)

pub returns-then-alike-clause-alike : goal.returns-then-alike-clause-alike
returns-then-alike-clause-alike g c = λ same.
    let stays = c.take_vectors.ensures.stays in
    shares-taken c.args.held.now c.args.found.now c.take_vectors.new.row c.requires.counts.junctions
    c.requires.counts.tanks c.take_vectors.ensures.vectors (ap (λ (h : Header). h.junctions) stays.header)
    (ap (λ (h : Header). h.tanks) stays.header)
