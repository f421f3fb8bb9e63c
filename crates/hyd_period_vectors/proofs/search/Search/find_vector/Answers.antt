use Rattle.std.proofs.Common.{◌≡◌, ℕ, ap, subst, sym, ◌∙◌, List, ℤ, drop}
use Rattle.hyd_period_network.proofs.OverwrittenLists.{refilled}
use Rattle.std.specs.Prelude.{length}
use Rattle.hyd_period_network.specs.NetAsPeriodNetwork.{grid_of}
use Rattle.hyd_cert.specs.RecordView.{row_of, IsProblemOf}
use Rattle.hyd_spec_certificates.specs.declared.Problem.TheVariants.{Main}
use Rattle.hyd_spec_certificates.specs.PeriodNetwork.{opposite}
use Rattle.hyd_spec_certificates.specs.RecordAndStanding.{vector_of}
use Rattle.hyd_period_vectors.specs.SizeOfSearch.{Room}
use Rattle.hyd_period_vectors.specs.SoughtVectors.{IsSought, Comes}
use Rattle.hyd_period_vectors.proofs.SoughtVectors.{sought-certificate}
use Rattle.hyd_period_vectors.proofs.VectorsInTurn.{before-more}
use Rattle.hyd_period_vectors.proofs.search.Search.find_vector.Goals as goal

pub returns-clause-found : goal.returns-clause-found
returns-clause-found g c =
    let grid = grid_of c.args.net.now in
    let told = g.F.Finder.told c.args.finder.now in
    let tanks = length c.args.net.now.tanks in
    let heads : List ℤ = c.find.new.heads in
    let whole : length heads ≡ c.self.inside.heads.len = c.find.ensures.each ∙ c.deref_mut.ensures.len in
    let here : heads ≡ c.deref.result.now =
    sym (refilled c.self.inside.heads.len heads (drop (length heads) c.self.inside.heads.items) whole)
    ∙ sym c.deref.ensures.value in
    before-more (IsSought c.args.tight told grid tanks) tanks c.args.problem c.args.side (row_of c.args.row.now)
    (row_of c.set_vector.new.self) c.deref.result.now c.requires.before c.set_vector.ensures.vector
    (subst (λ (u : List ℤ). IsSought c.args.tight told grid tanks c.args.problem c.args.side u) here
    c.in_ok-find.ensures.sought)
    (λ other face there. c.set_vector.ensures.others other face
    (subst (λ (n : ℕ). IsProblemOf n other) (sym c.requires.fits.tanks) there))

pub returns-clause-comes : goal.returns-clause-comes
returns-clause-comes g c =
    let grid = grid_of c.args.net.now in
    let told = g.F.Finder.told c.args.finder.now in
    let tanks = length c.args.net.now.tanks in
    let rounds = c.args.self.now.rounds in
    let heads : List ℤ = c.find.new.heads in
    let whole : length heads ≡ c.self.inside.heads.len = c.find.ensures.each ∙ c.deref_mut.ensures.len in
    let here : heads ≡ c.deref.result.now =
    sym (refilled c.self.inside.heads.len heads (drop (length heads) c.self.inside.heads.items) whole)
    ∙ sym c.deref.ensures.value in
    before-more (Comes c.args.tight told grid tanks rounds) tanks c.args.problem c.args.side (row_of c.args.row.now)
    (row_of c.set_vector.new.self) c.deref.result.now c.requires.came c.set_vector.ensures.vector
    (subst (λ (u : List ℤ). Comes c.args.tight told grid tanks rounds c.args.problem c.args.side u) here
    (subst (λ (n : ℕ). Comes c.args.tight told grid tanks n c.args.problem c.args.side heads)
    (ap (λ (r : Room). r.rounds) c.self.view_is) c.in_ok-find.ensures.comes))
    (λ other face there. c.set_vector.ensures.others other face
    (subst (λ (n : ℕ). IsProblemOf n other) (sym c.requires.fits.tanks) there))

pub find-requires-clause-other : goal.find-requires-clause-other
find-requires-clause-other g c earlier =
    let side = opposite c.args.side in
    sought-certificate c.args.tight (g.F.Finder.told c.args.finder.now) (grid_of c.args.net.now)
    (length c.args.net.now.tanks) Main side (vector_of (row_of c.args.row.now) Main side)
    (c.requires.before Main side tt earlier)
