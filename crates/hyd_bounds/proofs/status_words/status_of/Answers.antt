use Rattle.std.proofs.Common.{◌≡◌, ◌∙◌, ap, sym, w64, to_z, of_z, arith, ◌-ℤ◌}
use Rattle.std.proofs.lemmas.Int.{ints}
use Rattle.hyd_spec.specs.Assignment.{head_at}
use Rattle.hyd_spec_certificates.specs.declared.Problem.TheVariants.{Main}
use Rattle.hyd_spec_certificates.specs.declared.Side.TheVariants.{Upper, Lower}
use Rattle.hyd_spec_certificates.specs.PeriodNetwork.{all_heads}
use Rattle.hyd_spec_certificates.specs.FlowIntervals.{difference}
use Rattle.hyd_period_network.specs.ExactLaw.{exact_law}
use Rattle.hyd_period_network.specs.NetAsPeriodNetwork.{grid_of}
use Rattle.hyd_bounds.proofs.FlowBoxes.{placed-ends, some-same, law-at}
use Rattle.hyd_bounds.proofs.FlowsInSpans.{holds-status}
use Rattle.hyd_bounds.proofs.StatusWordByOwnLaw.{status-is}
use Rattle.hyd_bounds.proofs.status_words.status_of.Goals as goal

pub returns-clause-word : goal.returns-clause-word
returns-clause-word c us bends kind state place can state_is own_is place_is =
    let grid = grid_of c.args.net.now in
    let below = all_heads grid Main Lower c.args.low.now in
    let above = all_heads grid Main Upper c.args.high.now in
    let ends = placed-ends grid.links c.args.link c.ends-ends.result place place_is c.ends-ends.ensures.grid in
    let from = ends.0 in
    let to = ends.1 in
    let a = c.node_head.ensures.value ∙ ap (head_at below) (sym from) in
    let b = c.node_head-2.ensures.value ∙ ap (head_at above) (sym to) in
    let d = c.node_head-3.ensures.value ∙ ap (head_at above) (sym from) in
    let e = c.node_head-4.ensures.value ∙ ap (head_at below) (sym to) in
    let a_small = c.node_head.ensures.small in
    let b_small = c.node_head-2.ensures.small in
    let d_small = c.node_head-3.ensures.small in
    let e_small = c.node_head-4.ensures.small in
    let l_value = c.difference-least.ensures.value in
    let g_value = c.difference-greatest.ensures.value in
    let least : to_z w64 (of_z w64 c.difference-least.result) ≡ (head_at below place.from -ℤ head_at above place.to) =
    omega (arith, ints, a, b, a_small, b_small, l_value) in
    let greatest : to_z w64 (of_z w64 c.difference-greatest.result)
    ≡ (head_at above place.from -ℤ head_at below place.to) =
    omega (arith, ints, d, e, d_small, e_small, g_value) in
    c.word_of.ensures
    ∙ status-is us bends kind state c.state.result.now (exact_law c.own_law.result.now)
    (to_z w64 (of_z w64 c.difference-least.result))
    (to_z w64 (of_z w64 c.difference-greatest.result)) (difference place below above).lo
    (difference place below above).hi can
    (some-same _ _ (sym c.state.ensures ∙ state_is)) (some-same _ _
    (sym (law-at c.args.net.now.own c.args.link c.own_law.result.now c.own_law.ensures.value) ∙ own_is))
    least greatest

pub returns-clause-holds : goal.returns-clause-holds
returns-clause-holds c us bends kind state place can state_is own_is place_is =
    holds-status (grid_of c.args.net.now) c.args.low.now c.args.high.now us bends kind state place _
    (returns-clause-word c us bends kind state place can state_is own_is place_is)
