use Rattle.std.proofs.Common.{◌<◌, ℕ}
use Rattle.hyd_flow.specs.NearVectors.{LiesInside}
use Rattle.hyd_flow.proofs.near_vectors.lies_inside.Given as goal

-- no junction so far lies outside
abbrev pub invariant-loop-i : goal.invariant-loop-i
invariant-loop-i l = (k : ℕ) → k < l.i → LiesInside l.held l.side l.u l.own k
