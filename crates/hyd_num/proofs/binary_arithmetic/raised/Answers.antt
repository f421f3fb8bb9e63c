use Rattle.hyd_num.proofs.RoundingLemmas.{IsUp-exact, IsUp-next}
use Rattle.hyd_num.proofs.binary_arithmetic.raised.Goals as goal

pub returns-then-cut-clause-up : goal.returns-then-cut-clause-up
returns-then-cut-clause-up c = λ p q above cut. IsUp-exact p q _ above (cut.whole c.if-cut.true)

pub returns-clause-up : goal.returns-clause-up
returns-clause-up c = λ p q above cut. IsUp-next p q _ _ above (cut.lost c.if-cut.false) cut.below c.next.ensures.above
