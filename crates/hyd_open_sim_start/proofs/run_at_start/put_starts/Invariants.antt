use Rattle.std.proofs.Common.{◌≡◌, ◌<◌, ℕ}
use Rattle.std.specs.Prelude.{slice_index_or}
use Rattle.hyd_spec.specs.ProgramTypes.{Link, LinkState}
use Rattle.hyd_open_sim_start.proofs.run_at_start.put_starts.Given as goal

-- the links so far have the states in which they start
abbrev pub invariant-loop-place : goal.invariant-loop-place
invariant-loop-place l = (k : ℕ) (link : Link) (state : LinkState) → k < l.place
    → slice_index_or l.states k state ≡ (slice_index_or l.links k link).start
