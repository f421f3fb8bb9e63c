-- The run is whole with its last lines.
use Rattle.std.proofs.Common.{◌<◌, ◌^◌, sym, arith}
use Rattle.std.specs.Prelude.{Ok, Err}
use Rattle.hyd_spread_run_so_far.proofs.WholeSpreadRunLemmas.{ending}
use Rattle.hyd_spread_run_so_far.proofs.first_and_last_lines.end_run.Goals as goal

pub returns-in-Ok : goal.returns-in-Ok
returns-in-Ok g c = λ asked left time counted ends start so_far.
    let few : c.args.records < 2 ^ 32 = omega (arith, c.ranges.records) in
    (ending c.args.project.now asked c.args.end (Ok (tt {0})) left start _ _ c.args.records (sym counted)
    few ends (c.in-Ok.ensures left.known time) so_far).0

pub returns-in-Err : goal.returns-in-Err
returns-in-Err g c = λ asked left time counted ends start so_far.
    let few : c.args.records < 2 ^ 32 = omega (arith, c.ranges.records) in
    (ending c.args.project.now asked c.args.end (Err c.in-Err.fault) left start _ _ c.args.records (sym counted)
    few ends (c.in-Err.ensures left.known time) so_far).1
