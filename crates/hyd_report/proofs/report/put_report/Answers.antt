-- One part after another.
use Rattle.std.proofs.lemmas.Result.{err_from_is_err_and}
use Rattle.std.proofs.Common.{◌≡◌, ◌∙◌, sym, ap, length}
use Rattle.std.proofs.lemmas.List.{length-map}
use Rattle.hyd_period_network.specs.NetsSetToPeriods.{ends_of}
use Rattle.hyd_cert.specs.RecordView.{row_of}
use Rattle.hyd_period_network.specs.NetAsPeriodNetwork.{grid_of, states_of}
use Rattle.hyd_report.specs.PeriodLines.{start_lines, middle_lines, end_lines}
use Rattle.hyd_period_network.proofs.GridJunctionsAndLinks.{links_count}
use Rattle.hyd_report.proofs.LineLemmas.{three_text}
use Rattle.hyd_io.proofs.PutLemmas.{puts_then, puts_cut_off, puts_same}
use Rattle.hyd_report.proofs.ReportLemmas.{lines_are_report}
use Rattle.hyd_report.proofs.report.put_report.Goals as goal

pub returns-in_err-put_start-clause-puts : goal.returns-in_err-put_start-clause-puts
returns-in_err-put_start-clause-puts g c =
    let p = err_from_is_err_and c.from_residual.result c.from_residual.ensures.1 in
    rw (p.1, p.2) (let facts = c.args.facts.now in
    let middle = middle_lines c.args.project.now (grid_of c.args.net.now) (states_of c.args.net.now)
    (row_of c.args.row.now) facts in
    puts_same _ _ _ _ _ _ _ (three_text c.args.project.now (start_lines facts) middle (end_lines facts))
    (puts_cut_off _ _ c.in_err-put_start.field-0.0 _ _ _ _ c.in_err-put_start.ensures))

pub returns-in_err-put_middle-clause-puts : goal.returns-in_err-put_middle-clause-puts
returns-in_err-put_middle-clause-puts g c =
    let p = err_from_is_err_and c.from_residual-in_err-put_middle.result c.from_residual-in_err-put_middle.ensures.1 in
    rw (p.1, p.2) (let facts = c.args.facts.now in
    let middle = middle_lines c.args.project.now (grid_of c.args.net.now) (states_of c.args.net.now)
    (row_of c.args.row.now) facts in
    puts_same _ _ _ _ _ _ _ (three_text c.args.project.now (start_lines facts) middle (end_lines facts))
    (puts_then _ _ _ _ _ _ _ _ _ c.in_ok-put_start.ensures (puts_cut_off _ _ c.in_err-put_middle.field-0.0 _ _ _ _
    c.in_err-put_middle.ensures)))

pub returns-clause-puts : goal.returns-clause-puts
returns-clause-puts g c =
    let facts = c.args.facts.now in
    let middle = middle_lines c.args.project.now (grid_of c.args.net.now) (states_of c.args.net.now)
    (row_of c.args.row.now) facts in
    puts_same _ _ _ _ _ _ _ (three_text c.args.project.now (start_lines facts) middle (end_lines facts))
    (puts_then _ _ _ _ _ _ _ _ _ c.in_ok-put_start.ensures (puts_then _ _ _ _ _ _ _ _ _ c.in_ok-put_middle.ensures
    c.put_end.ensures))

pub returns-in_err-put_start-clause-report : goal.returns-in_err-put_start-clause-report
returns-in_err-put_start-clause-report g c =
    let net = c.args.net.now in
    let project = c.args.project.now in
    let of = c.requires.of in
    let ends : length net.ends ≡ length project.links.list = ap length of.ends
    ∙ length-map project.links.list ends_of in
    let each : length (grid_of net).links ≡ length project.links.list =
    links_count net.ends net.settings net.own (of.each_setting ∙ sym ends) (of.each_own ∙ sym ends) ∙ ends in
    λ standing are. lines_are_report project (grid_of net) (states_of net) standing
    (row_of c.args.row.now) c.args.facts.now are c.requires.tanks c.requires.links each

pub returns-in_err-put_middle-clause-report : goal.returns-in_err-put_middle-clause-report
returns-in_err-put_middle-clause-report g c =
    let net = c.args.net.now in
    let project = c.args.project.now in
    let of = c.requires.of in
    let ends : length net.ends ≡ length project.links.list = ap length of.ends
    ∙ length-map project.links.list ends_of in
    let each : length (grid_of net).links ≡ length project.links.list =
    links_count net.ends net.settings net.own (of.each_setting ∙ sym ends) (of.each_own ∙ sym ends) ∙ ends in
    λ standing are. lines_are_report project (grid_of net) (states_of net) standing
    (row_of c.args.row.now) c.args.facts.now are c.requires.tanks c.requires.links each

pub returns-clause-report : goal.returns-clause-report
returns-clause-report g c =
    let net = c.args.net.now in
    let project = c.args.project.now in
    let of = c.requires.of in
    let ends : length net.ends ≡ length project.links.list = ap length of.ends
    ∙ length-map project.links.list ends_of in
    let each : length (grid_of net).links ≡ length project.links.list =
    links_count net.ends net.settings net.own (of.each_setting ∙ sym ends) (of.each_own ∙ sym ends) ∙ ends in
    λ standing are. lines_are_report project (grid_of net) (states_of net) standing
    (row_of c.args.row.now) c.args.facts.now are c.requires.tanks c.requires.links each
