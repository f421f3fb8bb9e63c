use Rattle.std.proofs.Common.{sym, ◌∙◌}
use Rattle.hyd_spread_rows.specs.SpreadsRead.{spread_of}
use Rattle.hyd_spread_start.proofs.OpenTanksOfCode.{no-error, ok-there}
use Rattle.hyd_spread_start.proofs.run_at_start.begin_run.Goals as goal

pub unreachable-requires : goal.unreachable-requires
unreachable-requires c =
    no-error c.args.project.now (spread_of c.args.rows.now) c.put_stocks.result c.requires.decided
    c.put_stocks.ensures.open (sym c.is_err.ensures.value ∙ c.if-is_err.true)

pub returns-clause-initial : goal.returns-clause-initial
returns-clause-initial c =
    ok-there c.args.project.now (spread_of c.args.rows.now) c.put_stocks.result c.requires.decided
    c.put_stocks.ensures.open _ c.put_stocks.ensures.initial

pub returns-clause-standing : goal.returns-clause-standing
returns-clause-standing c =
    ok-there c.args.project.now (spread_of c.args.rows.now) c.put_stocks.result c.requires.decided
    c.put_stocks.ensures.open _ c.put_stocks.ensures.standing
