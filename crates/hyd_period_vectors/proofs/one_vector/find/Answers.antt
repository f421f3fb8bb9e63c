use Rattle.hyd_period_network.specs.NetAsPeriodNetwork.{grid_of}
use Rattle.hyd_spec_certificates.specs.Certificate.{IsTight}
use Rattle.std.specs.Prelude.{length}
use Rattle.std.proofs.Common.{ℕ, ◌≤◌, inl}
use Rattle.std.specs.Prelude.{None}
use Rattle.hyd_sweep.specs.LeapingRounds.{AreLeapingRounds}
use Rattle.hyd_period_vectors.specs.SoughtVectors.{IsSought, IsAtHand, Comes}
use Rattle.hyd_lemmas.proofs.ListsOptionsAndResults.{on-ok}
use Rattle.hyd_period_vectors.proofs.SoughtVectors.{tight-sought, reached, other-comes}
use Rattle.hyd_period_vectors.proofs.one_vector.find.Goals as goal

pub returns-clause-sought : goal.returns-clause-sought
returns-clause-sought g c =
    let grid = grid_of c.args.net.now in
    let told = g.F.Finder.told c.args.finder.now in
    let tanks = length c.args.net.now.tanks in
    on-ok (IsTight grid c.args.problem c.args.side c.sweep-2.new.heads)
    (IsSought c.args.tight told grid tanks c.args.problem c.args.side c.sweep-2.new.heads) c.sweep-2.result
    (tight-sought c.args.tight told grid tanks c.args.problem c.args.side c.sweep-2.new.heads c.if-tight.false
    (c.propose.ensures.refused c.if-propose.false))
    c.sweep-2.ensures.tight

pub returns-clause-comes : goal.returns-clause-comes
returns-clause-comes g c =
    let grid = grid_of c.args.net.now in
    let told = g.F.Finder.told c.args.finder.now in
    let tanks = length c.args.net.now.tanks in
    let first = c.begin_near.new.heads in
    let u = c.sweep-2.new.heads in
    on-ok ((n : ℕ) × ((n ≤ c.args.rounds) × AreLeapingRounds None grid c.args.problem c.args.side n first u))
    (Comes c.args.tight told grid tanks c.args.rounds c.args.problem c.args.side u) c.sweep-2.result
    (λ goes. other-comes c.args.tight told grid tanks c.args.rounds c.args.problem c.args.side u c.if-tight.false
    (reached IsAtHand grid c.args.problem c.args.side c.args.rounds first u c.begin_near.ensures.begun goes))
    c.sweep-2.ensures.goes

pub sweep-requires-2-clause-begun : goal.sweep-requires-2-clause-begun
sweep-requires-2-clause-begun g c = inl c.begin_near.ensures.begun
