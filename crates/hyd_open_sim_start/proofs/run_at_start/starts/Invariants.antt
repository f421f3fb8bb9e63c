use Rattle.std.proofs.Common.{◌≡◌, map, take}
use Rattle.hyd_open_sim_start.proofs.run_at_start.starts.Given as goal

abbrev pub invariant-loop-place : goal.invariant-loop-place
invariant-loop-place l = l.states.items ≡ map (λ link. link.start) (take l.place l.links)
