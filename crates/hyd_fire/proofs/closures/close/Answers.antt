use Rattle.std.proofs.Common.{◌∙◌, sym, ap, subst, ℤ, List, length, inr}
use Rattle.hyd_spec_certificates.specs.declared.Side.TheVariants.{Lower}
use Rattle.hyd_period_network.specs.NetAsPeriodNetwork.{grid_of}
use Rattle.hyd_fire.specs.SidesOfClosures.{IsFoundOn}
use Rattle.hyd_fire.proofs.closures.close.Goals as goal

pub returns-clause-left : goal.returns-clause-left
returns-clause-left g c =
    let below = grid_of c.args.below.now in
    let above-each = sym c.junctions-above.ensures.each in
    let below-each = sym c.junctions-below.ensures.each in
    let long = c.requires.one_each in
    record {
      upper_each = c.settle_upper-upper.ensures.each ∙ (ap length c.settle_lower-lower.ensures.upper
          ∙ (c.propose_both-upper_passes.ensures.each ∙ (long ∙ above-each)));
      lower_each = ap length c.settle_upper-upper.ensures.lower ∙ (c.settle_lower-lower.ensures.each
          ∙ (c.propose_both-upper_passes.ensures.lower_each ∙ (long ∙ (c.requires.alike ∙ below-each))));
      upper = c.settle_upper-upper.ensures.found;
      lower = subst (λ (u : List ℤ). IsFoundOn below c.args.rounds Lower u c.settle_lower-lower.result)
          (sym c.settle_upper-upper.ensures.lower) c.settle_lower-lower.ensures.found;
      upper_passing = λ e. inr (c.settle_upper-upper.ensures.spent e);
      lower_passing = λ e. inr (c.settle_lower-lower.ensures.spent e);
    }
