use Rattle.std.proofs.Common.{le_refl}
use Rattle.hyd_num.proofs.RoundingLemmas.{IsDown-from_cut}
use Rattle.hyd_num.proofs.EndsInOrder.{ordered}
use Rattle.hyd_num.proofs.pair_arithmetic.ratio.Goals as goal

pub between-requires : goal.between-requires
between-requires c = ordered c.args.p c.args.q c.args.p c.args.q c.fraction-cut.result.down c.raised.result
    c.requires.q_positive c.requires.q_positive (le_refl _)
    (IsDown-from_cut c.args.p c.args.q c.fraction-cut.result.down c.fraction-cut.result.exact
    c.fraction-cut.ensures.cut)
    (c.raised.ensures.up c.args.p c.args.q c.requires.q_positive c.fraction-cut.ensures.cut)

pub returns-clause-ratio : goal.returns-clause-ratio
returns-clause-ratio c = record {
  low = rw c.between.ensures.low (IsDown-from_cut c.args.p c.args.q c.fraction-cut.result.down
      c.fraction-cut.result.exact c.fraction-cut.ensures.cut);
  high = rw c.between.ensures.high (c.raised.ensures.up c.args.p c.args.q c.requires.q_positive
      c.fraction-cut.ensures.cut);
}
