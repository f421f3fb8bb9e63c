use Rattle.std.proofs.Common.{◌∙◌, length, ap}
use Rattle.hyd_spec_certificates.specs.declared.Side.TheVariants.{Upper}
use Rattle.hyd_period_network.specs.NetView.{NetView}
use Rattle.hyd_spread_targets.proofs.FirstPeriodsReady.{net-long}
use Rattle.hyd_spread_targets.proofs.spread_inquiry.SpreadInquiry.open.Goals as goal

pub returns-clause-open : goal.returns-clause-open
returns-clause-open c = record {
  small = c.requires.small;
  ready = c.in_ok-first.ensures.ready;
  study = c.in_ok-study.ensures.upper ∙ (ap (λ (n : NetView). length n.junctions) c.net.ensures
      ∙ net-long c.args.project.now c.in_ok-first.first.nets c.in_ok-first.ensures.ready.of Upper);
  targets = c.in_ok-targets.ensures;
}
