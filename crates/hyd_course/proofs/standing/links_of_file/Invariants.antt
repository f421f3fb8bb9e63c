use Rattle.std.proofs.Common.{◌≡◌, map, take}
use Rattle.hyd_course.proofs.standing.links_of_file.Given as goal

abbrev pub invariant-loop-place : goal.invariant-loop-place
invariant-loop-place l = l.states.items ≡ map (λ link. link.start) (take l.place l.links)
