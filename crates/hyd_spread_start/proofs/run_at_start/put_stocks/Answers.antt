use Rattle.std.proofs.Common.{◌≡◌}
use Rattle.hyd_spec_certificates.specs.RecordAndStanding.{initial_standing}
use Rattle.hyd_spec_spread_runs.specs.RunsForSpreads.{StartIsDecided}
use Rattle.hyd_spec_open_spreads.specs.OpenRunsForSpreads.{open_standing_within}
use Rattle.hyd_lemmas.proofs.ListsOptionsAndResults.{on-ok}
use Rattle.hyd_open_sim_start.specs.StandingsOfOpenRuns.{IsStanding, standing_for}
use Rattle.hyd_spread_rows.specs.SpreadsRead.{spread_of}
use Rattle.hyd_spread_start.proofs.StandingsWithin.{within-is, within-stands, on-both}
use Rattle.hyd_spread_start.proofs.run_at_start.put_stocks.Goals as goal

pub returns-clause-initial : goal.returns-clause-initial
returns-clause-initial c =
    let project = c.args.project.now in
    let spread = spread_of c.args.rows.now in
    let stocks = c.begin_known.new.stocks in
    on-ok (stocks.tanks.list ≡ (initial_standing project).tanks)
    (standing_for (record c.args.standing.now { stocks = stocks }) ≡ open_standing_within project spread)
    c.begin_known.result
    (λ tanks. within-is project c.requires.sound spread c.requires.spread c.args.standing.now stocks c.requires.initial
    c.begin_known.ensures.levels c.begin_known.ensures.volumes tanks) c.begin_known.ensures.tanks

pub returns-clause-standing : goal.returns-clause-standing
returns-clause-standing c =
    let project = c.args.project.now in
    let spread = spread_of c.args.rows.now in
    let stocks = c.begin_known.new.stocks in
    on-both (stocks.tanks.list ≡ (initial_standing project).tanks) (StartIsDecided project spread)
    (IsStanding project (record c.args.standing.now { stocks = stocks })) c.begin_known.result
    (λ tanks start. within-stands project c.requires.sound spread c.requires.spread c.args.standing.now stocks
    c.requires.initial c.begin_known.ensures.levels c.begin_known.ensures.volumes tanks start
    c.begin_known.ensures.held c.begin_known.ensures.room)
    c.begin_known.ensures.tanks c.begin_known.ensures.decided
