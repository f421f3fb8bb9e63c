use Rattle.std.proofs.Common.{◌≡◌, ◌≤◌, ◌+◌, length, take}
use Rattle.hyd_open_sim_start.proofs.facts_and_links_at_start.refill.Given as goal

abbrev pub invariant-loop-place : goal.invariant-loop-place
invariant-loop-place g l = record {
  items : l.list.list ≡ take l.place l.items;
  room : length l.fn.list.list + l.fn.list.spare ≤ length l.list.list + l.list.spare;
}
