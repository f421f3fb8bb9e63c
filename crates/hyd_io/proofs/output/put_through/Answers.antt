use Rattle.std.proofs.Common.{rules}
use Rattle.std.proofs.lemmas.Result.{err_from_is_err_and}
use Rattle.hyd_io.proofs.MovedBytesLemmas.{moves_through, put_out_through}
use Rattle.hyd_io.proofs.LeftAsItWasLemmas.{others_kept_then}
use Rattle.hyd_io.proofs.output.put_through.Goals as goal

pub returns-in_err-used-clause-front : goal.returns-in_err-used-clause-front
returns-in_err-used-clause-front g c =
    let p = err_from_is_err_and c.from_residual.result c.from_residual.ensures.1 in
    rw p.1 (put_out_through _ _ _ _ _ _ _ _ c.loop-rest.invariant.moves c.gather-n.ensures.held
    c.in_err-used.ensures.front)

pub loop-rest-preserved : goal.loop-rest-preserved
loop-rest-preserved g c = record {
  room = search rules;
  moves = moves_through _ _ _ _ _ _ _ _ _ c.loop-rest.invariant.moves c.gather-n.ensures.held
      c.in_ok-used.ensures.moves;
  steady = search rules;
  stays = others_kept_then _ _ _ _ c.loop-rest.invariant.stays c.in_ok-used.ensures.stays;
}
