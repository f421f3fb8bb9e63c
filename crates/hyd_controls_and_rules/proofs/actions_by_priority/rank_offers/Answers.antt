use Rattle.std.proofs.Common.{false, length, take, ap, refl, arith}
use Rattle.hyd_spec.specs.Rules.{offers_from}
use Rattle.hyd_controls_and_rules.proofs.BestOffers.{offers_more}
use Rattle.hyd_controls_and_rules.proofs.actions_by_priority.rank_offers.Goals as goal

pub loop-number-preserved : goal.loop-number-preserved
loop-number-preserved c =
    let count = length c.args.project.now.links.list in
    let rules = c.as_slice-rules.result.now in
    let i = c.loop-number.number in
    offers_more count i _ rules c.args.values.now _ c.index-rules-number.result _ false _
    (c.take_offers.ensures.best count (offers_from 0 (take i rules) (take i c.args.values.now))
    c.loop-number.invariant)
    (omega arith) c.index-rules-number.is refl c.loop-number-test.true (omega (
      arith,
      ap length
          c.as_slice-rules.ensures,
      c.requires.each_value,
    ))
