-- A new pen holds nothing and is on standard output.
use Rattle.std.proofs.lemmas.Result.{err_from_is_err_and}
use Rattle.std.proofs.Common.{ap}
use Rattle.std.proofs.lemmas.Result.{on_ok_weaker, on_err_weaker}
use Rattle.hyd_io.specs.Output.{PenState}
use Rattle.hyd_command_answers.proofs.PrintLemmas.{printed_whole, printed_front}
use Rattle.hyd_spread_target_commands.proofs.PassedOn.{front-of-put}
use Rattle.hyd_cli.proofs.usage.print_usage.Goals as goal

pub returns-clause-whole : goal.returns-clause-whole
returns-clause-whole g c =
    on_ok_weaker c.flush.result (λ w. printed_whole _ _ _ _ _ _ _ _ _ _ _ (ap (λ (p : PenState). p.to)
    c.new-pen.ensures)
    c.put.ensures.to_stays (ap (λ (p : PenState). p.held) c.new-pen.ensures) c.in_ok-put.ensures.moves w)
    c.flush.ensures.whole

pub returns-clause-front : goal.returns-clause-front
returns-clause-front g c =
    on_err_weaker c.flush.result (λ k. printed_front _ _ _ _ _ _ _ _ _ _ _ (ap (λ (p : PenState). p.to)
    c.new-pen.ensures) c.put.ensures.to_stays (ap (λ (p : PenState). p.held) c.new-pen.ensures) c.in_ok-put.ensures.moves k)
    c.flush.ensures.front

-- the put failed
pub returns-in_err-put-clause-front : goal.returns-in_err-put-clause-front
returns-in_err-put-clause-front g c =
    let p = err_from_is_err_and c.from_residual.result c.from_residual.ensures.1 in
    rw p.1 ((front-of-put _ _ _ _ _ c.new-pen.ensures c.in_err-put.field-0.0 c.in_err-put.ensures).printed)
