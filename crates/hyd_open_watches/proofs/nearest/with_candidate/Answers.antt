use Rattle.std.proofs.Common.{subst}
use Rattle.hyd_open_watches.specs.declared.nearest.Candidates.{Candidates}
use Rattle.hyd_open_watches.specs.Candidates.{AreNearest}
use Rattle.hyd_open_watches.proofs.NearestSoFar.{first_one, nearer_one, compete, still_competing}
use Rattle.hyd_open_watches.specs.Candidates.{watch_for}
use Rattle.hyd_open_watches.proofs.nearest.with_candidate.Goals as goal

pub returns-in-None : goal.returns-in-None
returns-in-None c = λ project facts latest watched comes short range are.
    first_one project facts latest watched c.args.watch comes short range
    (subst (λ (all : Candidates). AreNearest project facts latest watched all) c.in-None.is are)

pub returns-then-is_same_way : goal.returns-then-is_same_way
returns-then-is_same_way c = λ project facts latest watched comes short range are.
    let same = c.is_same_way.ensures.0 c.if-is_same_way.true in
    nearer_one project facts latest watched c.args.watch c.in-One.best c.nearer.result comes short range same.0 same.1
    c.nearer.ensures.one c.nearer.ensures.before_one c.nearer.ensures.before_other
    (subst (λ (all : Candidates). AreNearest project facts latest watched all) c.in-One.is are)

pub returns-else-is_same_way : goal.returns-else-is_same_way
returns-else-is_same_way c = λ project facts latest watched comes short range are.
    let apart = c.if-is_same_way.false in
    compete project facts latest watched c.args.watch c.in-One.best comes
    (λ same. let yes = c.is_same_way.ensures.1 same in absurd (cc))
    (subst (λ (all : Candidates). AreNearest project facts latest watched all) c.in-One.is are)

pub returns-in-Competing : goal.returns-in-Competing
returns-in-Competing c = λ project facts latest watched comes short range are.
    still_competing project facts latest watched (watch_for c.args.watch)
    (subst (λ (all : Candidates). AreNearest project facts latest watched all) c.in-Competing.is are)
