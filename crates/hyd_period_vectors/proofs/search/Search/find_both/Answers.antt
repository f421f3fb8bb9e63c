use Rattle.std.proofs.Common.{◌+◌, length}
use Rattle.hyd_spec_certificates.specs.declared.Side.TheVariants.{Upper, Lower}
use Rattle.hyd_spec_certificates.specs.TurnsOfProblems.{turn}
use Rattle.hyd_cert.specs.RecordView.{row_of}
use Rattle.hyd_period_network.specs.NetAsPeriodNetwork.{grid_of}
use Rattle.hyd_period_vectors.specs.SoughtVectors.{Comes, EachBefore}
use Rattle.hyd_lemmas.proofs.ListsOptionsAndResults.{on-ok}
use Rattle.hyd_period_vectors.proofs.SearchGoesOn.{next-turn, before-same}
use Rattle.hyd_period_vectors.proofs.search.Search.find_both.Goals as goal

pub returns-clause-comes : goal.returns-clause-comes
returns-clause-comes g c =
    let grid = grid_of c.args.net.now in
    let tanks = length c.args.net.now.tanks in
    let before = g.F.Finder.told c.find_vector.new.finder in
    let told = g.F.Finder.told c.args.finder.now in
    let here = c.find_vector.new.self in
    let room = c.args.self.now in
    let row = row_of c.find_vector-2.new.row in
    let last = turn c.args.problem Lower + 1 in
    let next = turn c.args.problem Upper + 2 in
    on-ok (EachBefore (Comes c.args.tight before grid tanks here.rounds) tanks last row)
    (EachBefore (Comes c.args.tight told grid tanks room.rounds) tanks next row) c.find_vector-2.result
    (before-same c.args.tight before told grid tanks here room last next row c.find_vector.ensures.told
    c.find_vector.ensures.keeps (next-turn c.args.problem))
    c.find_vector-2.ensures.comes
