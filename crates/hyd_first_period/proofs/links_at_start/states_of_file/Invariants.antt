use Rattle.std.proofs.Common.{◌≡◌, map, take}
use Rattle.hyd_first_period.proofs.links_at_start.states_of_file.Given as goal

abbrev pub invariant-loop-place : goal.invariant-loop-place
invariant-loop-place l = l.states.items ≡ map (λ link. link.start) (take l.place l.links)
