use Rattle.std.proofs.Common.{◌≡◌, ◌∙◌, ap, sym, subst, w64, to_z, of_z, arith}
use Rattle.std.specs.Prelude.{Option}
use Rattle.std.specs.Option.{IfSome}
use Rattle.std.proofs.lemmas.Int.{ints}
use Rattle.hyd_spec_certificates.specs.declared.Problem.TheVariants.{Main}
use Rattle.hyd_spec_certificates.specs.Interval.{Interval}
use Rattle.hyd_spec_certificates.specs.PeriodNetwork.{GridLink}
use Rattle.hyd_spec_certificates.specs.FlowIntervals.{difference}
use Rattle.hyd_period_network.specs.ExactLaw.{exact_law}
use Rattle.hyd_bounds.proofs.FlowBoxes.{some-same, law-at}
use Rattle.hyd_bounds.proofs.StatusWordByOwnLaw.{status-is}
use Rattle.hyd_spread_bounds.specs.BothSides.{pair_of, all_below, all_above}
use Rattle.hyd_spread_bounds.proofs.FlowsOfBothSides.{IsDifference}
use Rattle.hyd_spread_bounds.proofs.status_words.status_of.Goals as goal

pub returns : goal.returns
returns c us bends kind state place can state_is own_is place_is =
    let pair = pair_of c.args.upper.now c.args.lower.now in
    let below = all_below pair Main c.args.low.now in
    let above = all_above pair Main c.args.high.now in
    let least = c.difference_span-span.result.lo in
    let greatest = c.difference_span-span.result.hi in
    let its = subst (λ (o : Option GridLink). IfSome o (IsDifference below above least greatest)) place_is
    c.difference_span-span.ensures.value in
    let lo_small = c.difference_span-span.ensures.small_lo in
    let hi_small = c.difference_span-span.ensures.small_hi in
    let lo_kept : to_z w64 (of_z w64 least) ≡ least = omega (arith, ints, lo_small) in
    let hi_kept : to_z w64 (of_z w64 greatest) ≡ greatest = omega (arith, ints, hi_small) in
    c.word_of.ensures
    ∙ status-is us bends kind state c.state.result.now (exact_law c.own_law.result.now) (to_z w64 (of_z w64 least))
    (to_z w64 (of_z w64 greatest)) (difference place below above).lo (difference place below above).hi can
    (some-same _ _ (sym c.state.ensures ∙ state_is)) (some-same _ _
    (sym (law-at c.args.upper.now.own c.args.link c.own_law.result.now c.own_law.ensures.value) ∙ own_is))
    (lo_kept ∙ ap (λ (x : Interval). x.lo) its) (hi_kept ∙ ap (λ (x : Interval). x.hi) its)
