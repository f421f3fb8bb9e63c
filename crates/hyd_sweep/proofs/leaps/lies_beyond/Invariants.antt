use Rattle.std.proofs.Common.{◌<◌, ℕ}
use Rattle.hyd_spec.specs.Assignment.{head_at}
use Rattle.hyd_spec_certificates.specs.Certificate.{IsBeyond}
use Rattle.hyd_sweep.proofs.leaps.lies_beyond.Given as goal

abbrev pub invariant-loop-i : goal.invariant-loop-i
invariant-loop-i l = (k : ℕ) → k < l.i → IsBeyond l.side (head_at l.u k) (head_at l.to k)
