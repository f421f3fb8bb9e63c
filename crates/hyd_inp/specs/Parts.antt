-- Parts of the network of a file without a fault.
use Rattle.std.specs.Prelude.{◌≡◌, List, IfSome, IfNone}
use Rattle.hyd_spec_lines.specs.Lines.{Row}
use Rattle.hyd_spec_lines.specs.declared.section.Section.TheVariants.{Junctions, Reservoirs, Tanks, Controls, Rules}
use Rattle.hyd_net.specs.declared.options.Options.{Options}
use Rattle.hyd_net.specs.declared.options.Times.{Times}
use Rattle.hyd_net.specs.declared.project.Project.{Project}
use Rattle.hyd_spec_input.specs.MeaningsAcrossRows.{node_ids, tank_ids, link_ids, pattern_ids, shape_names, bend_names}
use Rattle.hyd_spec_input.specs.MeaningsAcrossRows.{rule_groups}
use Rattle.hyd_spec_input.specs.Project.{Match, IsJunction, IsReservoir, IsTank, IsLink, IsPattern, IsControl, IsRule}
use Rattle.hyd_spec_input.specs.Project.{IsOptions, IsTimes, IsProject, numbered_links, shape_points, bend_points}
use Rattle.hyd_spec_input.specs.SectionsAndTables.{rows_of, words_of}
use Rattle.hyd_inp.specs.declared.numbered_names.Numbers.{Numbers}
use Rattle.hyd_inp.specs.declared.numbered_names.NumberedApart.{NumberedApart}
use Rattle.hyd_inp.specs.declared.numbered_names.Ids.{Ids}
use Rattle.hyd_inp.specs.declared.tables.Tables.{Tables}
use Rattle.hyd_inp.specs.declared.network_parts.Nodes.{Nodes}
use Rattle.hyd_inp.specs.declared.network_parts.Links.{Links}
use Rattle.hyd_inp.specs.declared.network_parts.PatternsControlsAndRules.{PatternsControlsAndRules}
use Rattle.hyd_inp.specs.declared.network_parts.Parts.{Parts}

-- IDs in the order of their numbers
pub record AreNumbers (rows : List Row) (numbers : Numbers) : Type 0 where
  pub nodes : numbers.nodes.now ≡ node_ids rows
  pub tanks : numbers.tanks.now ≡ tank_ids rows
  pub links : numbers.links.now ≡ link_ids rows
  pub patterns : numbers.patterns.now ≡ pattern_ids rows

-- IDs that are numbered apart, or that the tables have in the order of their numbers
pub record AreNumberedApart (rows : List Row) (tables : Tables) (apart : NumberedApart) : Type 0 where
  pub nodes : IfSome apart.nodes (λ ids. ids ≡ node_ids rows)
  pub nodes_of_table : IfNone apart.nodes (tables.nodes.names ≡ node_ids rows)
  pub tanks : apart.tanks ≡ tank_ids rows
  pub links : IfSome apart.links (λ ids. ids ≡ link_ids rows)
  pub links_of_table : IfNone apart.links (tables.links.names ≡ link_ids rows)
  pub patterns : apart.patterns ≡ pattern_ids rows

-- the IDs that a network keeps are those of the numbers
pub record AreIds (numbers : Numbers) (ids : Ids) : Type 0 where
  pub nodes : ids.nodes ≡ numbers.nodes.now
  pub links : ids.links ≡ numbers.links.now

pub record AreNodes (rows : List Row) (nodes : Nodes) : Type 0 where
  pub junctions : Match (IsJunction rows) (rows_of Junctions rows) nodes.junctions.list
  pub reservoirs : Match (IsReservoir rows) (rows_of Reservoirs rows) nodes.reservoirs.list
  pub tanks : Match (IsTank rows) (rows_of Tanks rows) nodes.tanks.list
  pub shapes : Match (λ name list. list.list ≡ shape_points rows name) (shape_names rows) nodes.shapes.list

pub record AreLinks (rows : List Row) (links : Links) : Type 0 where
  pub links_are : Match (IsLink rows) (numbered_links rows) links.links.list
  pub bends : Match (λ name list. list.list ≡ bend_points rows name) (bend_names rows) links.bends.list

pub record ArePatternsControlsAndRules (rows : List Row) (parts : PatternsControlsAndRules) : Type 0 where
  pub patterns : Match (IsPattern rows) (pattern_ids rows) parts.patterns.list
  pub controls : Match (IsControl rows) (words_of Controls rows) parts.controls.list
  pub rules : Match (IsRule rows) (rule_groups (words_of Rules rows)) parts.rules.list

pub record AreParts (rows : List Row) (parts : Parts) : Type 0 where
  pub nodes : AreNodes rows parts.nodes
  pub links : AreLinks rows parts.links
  pub patterns_controls_and_rules : ArePatternsControlsAndRules rows parts.patterns_controls_and_rules

-- what has all parts of a file's network is its network
abbrev pub AreAll : Ids → Parts → Options → Times → Project → Type 0
AreAll ids parts options times project =
    (rows : List Row) (numbers : Numbers) → AreNumbers rows numbers → AreIds numbers ids → AreParts rows parts → IsOptions rows options → IsTimes rows times
    → IsProject rows project
