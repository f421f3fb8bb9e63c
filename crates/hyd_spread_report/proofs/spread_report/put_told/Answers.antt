-- The nets are those of both sides.
use Rattle.std.proofs.Common.{◌∙◌, ℕ, List, sym, ap, subst}
use Rattle.hyd_spec_certificates.specs.declared.Side.TheVariants.{Upper}
use Rattle.hyd_cert.specs.RecordView.{row_of}
use Rattle.hyd_period_network.specs.GivenData.{IsNetButEmitters}
use Rattle.hyd_period_network.specs.LawsInSettings.{AreStates}
use Rattle.hyd_period_network.specs.NetAsPeriodNetwork.{states_of}
use Rattle.hyd_period_network.specs.NetView.{NetView}
use Rattle.hyd_spread_bounds.specs.BothSides.{pair_of, IsOrderedPair}
use Rattle.hyd_report.specs.NodeAndLinkLines.{texts}
use Rattle.hyd_io.proofs.PutLemmas.{puts_same}
use Rattle.hyd_spread_report.specs.LinesOverBothSides.{AreBoundsOver, middle_lines_over}
use Rattle.hyd_spread_report.proofs.spread_report.put_told.Goals as goal

pub put_middle-requires-clause-of : goal.put_middle-requires-clause-of
put_middle-requires-clause-of g c =
    subst (λ (net : NetView). IsNetButEmitters c.args.project.now net) (sym c.on-upper.ensures)
    (c.requires.of.each Upper)

pub put_middle-requires-clause-pair : goal.put_middle-requires-clause-pair
put_middle-requires-clause-pair g c =
    subst (λ (net : NetView). IsOrderedPair (pair_of net c.on-lower.result.now)) (sym c.on-upper.ensures)
    (subst (λ (net : NetView). IsOrderedPair (pair_of c.args.nets.now.upper net)) (sym c.on-lower.ensures)
    c.requires.pair)

pub put_middle-requires-clause-states : goal.put_middle-requires-clause-states
put_middle-requires-clause-states g c =
    subst (λ (net : NetView). AreStates c.args.project.now (states_of net)) (sym c.on-upper.ensures) c.requires.states

pub put_middle-requires-clause-bounds : goal.put_middle-requires-clause-bounds
put_middle-requires-clause-bounds g c =
    let row = row_of c.args.row.now in
    subst (λ (net : NetView). AreBoundsOver net c.on-lower.result.now row) (sym c.on-upper.ensures)
    (subst (λ (net : NetView). AreBoundsOver c.args.nets.now.upper net row) (sym c.on-lower.ensures)
    c.requires.bounds)

pub returns : goal.returns
returns g c =
    let text : NetView → NetView → List ℕ = λ upper lower. texts c.args.project.now
    (middle_lines_over c.args.project.now (pair_of upper lower) (states_of upper) (row_of c.args.row.now)
    c.args.facts.now c.args.late) in
    puts_same _ _ _ _ _ _ _
    (ap (λ (net : NetView). text net c.on-lower.result.now) c.on-upper.ensures
    ∙ ap (λ (net : NetView). text c.args.nets.now.upper net) c.on-lower.ensures)
    c.put_middle.ensures
