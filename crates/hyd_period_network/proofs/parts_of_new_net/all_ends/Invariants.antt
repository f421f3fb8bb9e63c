use Rattle.std.proofs.Common.{◌≡◌, ◌++◌, map, drop}
use Rattle.hyd_period_network.specs.NetsSetToPeriods.{ends_of}
use Rattle.hyd_period_network.proofs.parts_of_new_net.all_ends.Given as goal

abbrev pub invariant-loop-link : goal.invariant-loop-link
invariant-loop-link l = l.ends.items ++ map ends_of (drop l.link-index l.links) ≡ map ends_of l.links
