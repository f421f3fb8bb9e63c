-- The line of the link that is there.
use Rattle.std.proofs.Common.{◌≡◌, ◌<◌, ◌∙◌, ℕ, List, ap, length, arith}
use Rattle.std.specs.Prelude.{Some, slice_get}
use Rattle.std.proofs.lemmas.List.{length-map}
use Rattle.hyd_spec_certificates.specs.PeriodNetwork.{GridLink}
use Rattle.hyd_spec_certificates.specs.declared.Problem.TheVariants.{Main}
use Rattle.hyd_spec_spread_runs.specs.OutermostPairs.{spanned}
use Rattle.hyd_period_network.specs.NetsSetToPeriods.{ends_of}
use Rattle.hyd_period_network.specs.NetAsPeriodNetwork.{grid_of, states_of}
use Rattle.hyd_io.specs.TextPutIn.{Puts}
use Rattle.hyd_lemmas.proofs.ListsOptionsAndResults.{item_there}
use Rattle.hyd_spread_bounds.specs.BothSides.{pair_of, all_below, all_above}
use Rattle.hyd_report.proofs.LineLemmas.{link_put}
use Rattle.hyd_report.proofs.StatusWordOfLink.{AreLinksOf, link_word}
use Rattle.hyd_spread_report.proofs.links.put_link.Goals as goal

pub returns : goal.returns
returns g c =
    let net = c.args.upper.now in
    let pair = pair_of net c.args.lower.now in
    let project = c.args.project.now in
    let below = all_below pair Main c.args.low.now in
    let above = all_above pair Main c.args.high.now in
    let within : c.args.link < length (grid_of net).links =
    omega (
      arith,
      c.links-links.ensures.each,
      c.requires.in_range,
      ap length c.requires.of.ends
          ∙ length-map project.links.list ends_of,
    ) in
    let place : (x : GridLink) × (slice_get (grid_of net).links c.args.link ≡ Some x) = item_there
    (grid_of net).links c.args.link within in
    let links : AreLinksOf project net = record {
      each_setting = c.requires.of.each_setting;
      each_own = c.requires.of.each_own;
      each_law = c.requires.of.each_law;
      laws = c.requires.of.laws;
    } in
    link_put (slice_get project.links.list c.args.link) project (spanned pair) below above (states_of net)
    (λ (text : List ℕ). Puts g.D.Desk.files g.D.Desk.rest g.D.Desk.written g.D.Desk.printed g.D.Desk.target
    g.D.Desk.ready g.D.Desk.counts g.D.Desk.openings
    text c.put_link_line.result c.args.pen.now c.put_link_line.new.pen c.args.desk.now c.put_link_line.new.desk)
    c.args.link c.flow_box-flow.result c.status_of-status.result place.0 place.1 c.flow_box-flow.ensures.flow
    (link_word project net c.args.link below above c.status_of-status.result place.0 links c.requires.states
    c.requires.in_range place.1 c.status_of-status.ensures)
    c.put_link_line.ensures
