use Rattle.std.proofs.Common.{◌≡◌, ◌+◌, ◌*◌, ℕ, ℤ, List, refl, sym, subst, ◌∙◌, arith, length}
use Rattle.std.specs.Prelude.{Option}
use Rattle.hyd_cert.specs.Lines.{Header}
use Rattle.hyd_cert.specs.RecordView.{row_of}
use Rattle.hyd_period_network.specs.NetAsPeriodNetwork.{grid_of}
use Rattle.hyd_period_vectors.specs.SoughtVectors.{IsSought, EachBefore, Fits}
use Rattle.hyd_period_vectors.proofs.SearchGoesOn.{before-same}
use Rattle.hyd_period_vectors.proofs.search.Search.find.Goals as goal

pub find_both-requires-in-loop-tank-clause-came : goal.find_both-requires-in-loop-tank-clause-came
find_both-requires-in-loop-tank-clause-came g c =
    let turns = 2 * c.loop-tank.tank + 2 in
    let inv = c.loop-tank.invariant in
    before-same c.args.tight (g.F.Finder.told c.args.finder.now) (g.F.Finder.told c.loop-tank.finder)
    (grid_of c.args.net.now) (length c.args.net.now.tanks) c.args.self.now c.loop-tank.self turns turns
    (row_of c.loop-tank.row) (sym inv.told) (sym inv.keeps) refl inv.comes

pub loop-tank-preserved : goal.loop-tank-preserved
loop-tank-preserved g c =
    let grid = grid_of c.args.net.now in
    let tanks = length c.args.net.now.tanks in
    let inv = c.loop-tank.invariant in
    let told = g.F.Finder.told c.args.finder.now in
    let row = row_of c.find_both-in-loop-tank.new.row in
    let done = (2 * c.loop-tank.tank + 2) + 2 in
    let next = 2 * (c.loop-tank.tank + 1) + 2 in
    let turns : done ≡ next = omega arith in
    let stays = c.find_both-in-loop-tank.ensures.stays in
    record {
      found = subst (λ (n : ℕ). EachBefore (IsSought c.args.tight told grid tanks) tanks n row) turns
          (subst (λ (t : Option (List ℤ)). EachBefore (IsSought c.args.tight t grid tanks) tanks done row) inv.told
          c.in_ok-find_both-2.ensures.found);
      comes = before-same c.args.tight (g.F.Finder.told c.loop-tank.finder) told grid tanks c.loop-tank.self
          c.args.self.now done next row inv.told inv.keeps turns c.in_ok-find_both-2.ensures.comes;
      fits = subst (λ (h : Header). Fits c.args.net.now h) (sym stays.header) inv.fits;
      stays = record {
        header = stays.header ∙ inv.stays.header;
        number = stays.number ∙ inv.stays.number;
        time = stays.time ∙ inv.stays.time;
        length_is = stays.length_is ∙ inv.stays.length_is;
      };
      told = c.find_both-in-loop-tank.ensures.told ∙ inv.told;
      keeps = c.find_both-in-loop-tank.ensures.keeps ∙ inv.keeps;
    }
