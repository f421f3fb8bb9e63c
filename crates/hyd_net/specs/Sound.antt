-- What is asked of the network of an input file: its ids, counts, numbers and quantities are in range, and each rounded
-- form is the one that the numbers beside it make. (EPANET 2.2 User Manual, Input File Format, for what the sections
-- hold.)
use Rattle.std.specs.Prelude.{◌≡◌, ◌≢◌, ℕ, ◌+◌, ◌*◌, ◌^◌, ◌<◌, ◌≤◌, length, sum_by, nat_lt, if◌then◌else◌}
use Rattle.std.specs.List.{All}
use Rattle.hyd_net.specs.Ids.{AreDistinct, IsId}
use Rattle.hyd_net.specs.NumberRanges.{LiesWithin}
use Rattle.hyd_net.specs.CountLimits.{most_junctions, most_reservoirs, most_tanks, most_links, most_patterns}
use Rattle.hyd_net.specs.CountLimits.{most_multipliers, most_curves, most_points, most_demands, most_controls}
use Rattle.hyd_net.specs.CountLimits.{most_rules, most_parts}
use Rattle.hyd_net.specs.LinkStates.{CanHave}
use Rattle.hyd_net.specs.NetworkRanges.{HasQuantities}
use Rattle.hyd_net.specs.RoundedFileNumbers.{IsAllMade}
use Rattle.hyd_net.specs.ControlsAndRules.{node_count, IsControl, IsRule}
use Rattle.hyd_net.specs.ListView.{ListView}
use Rattle.hyd_net.specs.declared.curves.VolumePoint.{VolumePoint}
use Rattle.hyd_net.specs.declared.curves.HeadPoint.{HeadPoint}
use Rattle.hyd_net.specs.declared.nodes.Junction.{Junction}
use Rattle.hyd_net.specs.declared.links.Link.{Link}
use Rattle.hyd_net.specs.declared.patterns.Pattern.{Pattern}
use Rattle.hyd_net.specs.declared.rules.Rule.{Rule}
use Rattle.hyd_net.specs.declared.options.Times.{Times}
use Rattle.hyd_net.specs.declared.project.Project.{Project}

-- ---- IDs

-- one ID for each node and each link, all distinct in their table, of 1 to 31 bytes
pub record HasIds (p : Project) : Type 0 where
  pub each_node : length p.node_ids ≡ node_count p
  pub each_link : length p.link_ids ≡ length p.links.list
  pub distinct_nodes : AreDistinct p.node_ids
  pub distinct_links : AreDistinct p.link_ids
  pub node_ids : All IsId p.node_ids
  pub link_ids : All IsId p.link_ids

-- ---- counts

-- the rows of DEMANDS that a junction has for certain: where it has one demand, that may be the one of its own row
abbrev pub demand_rows : Junction → ℕ
demand_rows j = if nat_lt 1 (length j.demands.list) then length j.demands.list else 0

-- the clauses and actions of a rule
abbrev pub part_count : Rule → ℕ
part_count r = length r.clauses.list + length r.yes.list + length r.no.list

-- no table is longer than its limit
pub record IsWithinLimits (p : Project) : Type 0 where
  pub junctions : length p.junctions.list ≤ most_junctions
  pub reservoirs : length p.reservoirs.list ≤ most_reservoirs
  pub tanks : length p.tanks.list ≤ most_tanks
  pub links : length p.links.list ≤ most_links
  pub patterns : length p.patterns.list ≤ most_patterns
  pub multipliers : sum_by (λ (q : Pattern). length q.multipliers.list) p.patterns.list ≤ most_multipliers
  pub shapes : length p.shapes.list ≤ most_curves
  pub shape_points : sum_by (λ (shape : ListView VolumePoint). length shape.list) p.shapes.list ≤ most_points
  pub bends : length p.bends.list ≤ most_curves
  pub bend_points : sum_by (λ (bend : ListView HeadPoint). length bend.list) p.bends.list ≤ most_points
  pub demands : sum_by demand_rows p.junctions.list ≤ most_demands
  pub controls : length p.controls.list ≤ most_controls
  pub rules : length p.rules.list ≤ most_rules
  pub parts : sum_by part_count p.rules.list ≤ most_parts

-- ---- links

-- both ends are nodes, and not the same one
pub record HasEnds (nodes : ℕ) (l : Link) : Type 0 where
  pub from_node : l.from < nodes
  pub to_node : l.to < nodes
  pub apart : l.from ≢ l.to

-- ---- patterns

-- a pattern has a multiplier, and each is at most 10^6 up or down
pub record IsPattern (p : Pattern) : Type 0 where
  pub not_empty : 1 ≤ length p.multipliers.list
  pub range : All (LiesWithin (10 ^ 6 * 10 ^ 9)) p.multipliers.list

-- ---- times

-- times are at most 10^8 seconds, steps at least one; the hydraulic step is at most the pattern step and the report
-- step, the rule step at most the hydraulic one; the clock's start is a time of day
pub record AreTimes (t : Times) : Type 0 where
  pub duration : t.duration ≤ 10 ^ 8
  pub hydraulic : 1 ≤ t.hydraulic
  pub within_pattern : t.hydraulic ≤ t.pattern
  pub within_report : t.hydraulic ≤ t.report
  pub pattern : t.pattern ≤ 10 ^ 8
  pub pattern_start : t.pattern_start ≤ 10 ^ 8
  pub report : t.report ≤ 10 ^ 8
  pub report_start : t.report_start ≤ 10 ^ 8
  pub start_clock : t.start_clock < 86400
  pub rule : 1 ≤ t.rule
  pub within_hydraulic : t.rule ≤ t.hydraulic

-- ---- all of it

-- a network is sound
pub record IsSound (p : Project) : Type 0 where
  pub ids : HasIds p
  pub counts : IsWithinLimits p
  -- both ends of each link are nodes that differ
  pub links : All (HasEnds (node_count p)) p.links.list
  -- the state of each link before the pump patterns and controls of time 0 is one that it can have
  pub states : All (λ l. CanHave l.kind l.start) p.links.list
  pub quantities : HasQuantities p
  pub patterns : All IsPattern p.patterns.list
  pub controls : All (IsControl p) p.controls.list
  pub rules : All (IsRule p) p.rules.list
  pub times : AreTimes p.times
  pub made : IsAllMade p
