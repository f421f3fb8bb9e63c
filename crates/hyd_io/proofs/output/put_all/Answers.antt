use Rattle.std.proofs.Common.{rules}
use Rattle.hyd_io.proofs.MovedBytesLemmas.{moves_further}
use Rattle.hyd_io.proofs.LeftAsItWasLemmas.{others_kept_then}
use Rattle.hyd_io.proofs.output.put_all.Goals as goal

pub loop-left-preserved : goal.loop-left-preserved
loop-left-preserved g c = record {
  moves = moves_further _ _ _ _ _ _ c.loop-left.invariant.moves c.in_ok-n.ensures.front;
  steady = search rules;
  stays = others_kept_then _ _ _ _ c.loop-left.invariant.stays c.in_ok-n.ensures.stays;
}
