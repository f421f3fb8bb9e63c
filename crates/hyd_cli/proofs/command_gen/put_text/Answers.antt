-- A new pen holds nothing and is on the file created last.
use Rattle.std.proofs.Common.{ap}
use Rattle.std.proofs.lemmas.Result.{on_ok_weaker, on_err_weaker}
use Rattle.hyd_io.specs.Output.{PenState}
use Rattle.hyd_cli.proofs.GenLemmas.{put_whole, put_front}
use Rattle.hyd_cli.proofs.command_gen.put_text.Goals as goal

pub returns-clause-whole : goal.returns-clause-whole
returns-clause-whole g c =
    on_ok_weaker c.flush.result (λ w. put_whole _ _ _ _ _ _ _ _ _ _ _ (ap (λ (p : PenState). p.to) c.new-pen.ensures)
    c.put.ensures.to_stays (ap (λ (p : PenState). p.held) c.new-pen.ensures) c.in_ok-put.ensures.moves w)
    c.flush.ensures.whole

pub returns-clause-front : goal.returns-clause-front
returns-clause-front g c =
    on_err_weaker c.flush.result (λ k. put_front _ _ _ _ _ _ _ _ _ _ _ (ap (λ (p : PenState). p.to) c.new-pen.ensures)
    c.put.ensures.to_stays (ap (λ (p : PenState). p.held) c.new-pen.ensures) c.in_ok-put.ensures.moves k)
    c.flush.ensures.front
