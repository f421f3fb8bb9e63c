use Rattle.std.proofs.Common.{◌≡◌, ◌+◌, ◌≤◌, ◌++◌, length, take, drop}
use Rattle.hyd_spec.specs.Lists.{map_from, present}
use Rattle.hyd_controls_and_rules.specs.ActionsByPriority.{change_at, state_at}
use Rattle.hyd_controls_and_rules.proofs.changes_by_rules.carry_out.Given as goal

abbrev pub invariant-loop-link : goal.invariant-loop-link
invariant-loop-link l = record {
  count : length l.links ≡ length l.initial.links;
  states : take l.link l.links ++ map_from (state_at l.best) l.link (drop l.link l.links) ≡ map_from
      (state_at l.best) 0 l.initial.links;
  changes : l.rows.list ++ present (map_from (change_at l.best) l.link (drop l.link l.links))
      ≡ l.initial.rows.list ++ present (map_from (change_at l.best) 0 l.initial.links);
  most : length l.rows.list ≤ length l.initial.rows.list + l.link;
  room : length l.initial.rows.list + l.initial.rows.spare ≤ length l.rows.list + l.rows.spare;
  spare : l.initial.rows.spare ≤ l.rows.spare + l.link;
}
