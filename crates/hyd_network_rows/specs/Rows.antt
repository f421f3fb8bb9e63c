-- What the rows of nodes, links and what belongs to them say, as the results of their readers.
use Rattle.std.specs.Prelude.{◌≡◌, ℕ, true, false, List, drop, Some, slice_get, if◌then◌else◌, pos}
use Rattle.hyd_spec_lines.specs.WordsOfLines.{text_of, words_in}
use Rattle.hyd_option_and_rule_lines.specs.WhatLinesSay.{IsAsked}
use Rattle.hyd_spec_input.specs.Columns.{word, amount, amount_or}
use Rattle.hyd_spec_input.specs.NodeAndLinkRows.{tank_curve, tank_overflows, has_check_valve, is_closed_pipe}
use Rattle.hyd_spec_input.specs.NodeAndLinkRows.{pipe_minor}
use Rattle.hyd_spec_input.specs.NodeAndLinkRows.{pump_curve, pump_pattern, pump_speed, is_throttle, is_general}
use Rattle.hyd_spec_input.specs.NodeAndLinkRows.{valve_minor}
use Rattle.hyd_network_rows.specs.declared.junctions_and_reservoirs.JunctionRow.{JunctionRow}
use Rattle.hyd_network_rows.specs.declared.junctions_and_reservoirs.ReservoirRow.{ReservoirRow}
use Rattle.hyd_network_rows.specs.declared.tanks.TankRow.{TankRow}
use Rattle.hyd_network_rows.specs.declared.end_nodes.LinkEnds.{LinkEnds}
use Rattle.hyd_network_rows.specs.declared.pipes.PipeRow.{PipeRow}
use Rattle.hyd_network_rows.specs.declared.pipes.PipeStatus.{PipeStatus}
use Rattle.hyd_network_rows.specs.declared.pipes.PipeStatus.TheVariants.{Open, Closed, CheckValve}
use Rattle.hyd_network_rows.specs.declared.pumps.PumpRow.{PumpRow}
use Rattle.hyd_network_rows.specs.declared.valves.ValveRow.{ValveRow}
use Rattle.hyd_network_rows.specs.declared.valves.ValveSetting.{ValveSetting}
use Rattle.hyd_network_rows.specs.declared.valves.ValveSetting.TheVariants.{Throttle, Curve, Flow}
use Rattle.hyd_network_rows.specs.declared.demands_emitters_curves_and_statuses.DemandRow.{DemandRow}
use Rattle.hyd_network_rows.specs.declared.demands_emitters_curves_and_statuses.EmitterRow.{EmitterRow}
use Rattle.hyd_network_rows.specs.declared.demands_emitters_curves_and_statuses.CurveRow.{CurveRow}
use Rattle.hyd_network_rows.specs.declared.demands_emitters_curves_and_statuses.StatusRow.{StatusRow}
use Rattle.hyd_network_rows.specs.declared.patterns.PatternRow.{PatternRow}

-- ---- nodes

pub record IsJunctionRow (words : List (List ℕ)) (row : JunctionRow) : Type 0 where
  pub id : slice_get words 0 ≡ Some row.id.now
  pub elevation : row.elevation.nano ≡ amount 1 words
  pub base : row.base.nano ≡ amount_or (pos 0) 2 words
  pub pattern : text_of row.pattern ≡ slice_get words 3

pub record IsReservoirRow (words : List (List ℕ)) (row : ReservoirRow) : Type 0 where
  pub id : slice_get words 0 ≡ Some row.id.now
  pub head : row.head.nano ≡ amount 1 words
  pub pattern : text_of row.pattern ≡ slice_get words 2

pub record IsTankRow (words : List (List ℕ)) (row : TankRow) : Type 0 where
  pub id : slice_get words 0 ≡ Some row.id.now
  pub bottom : row.bottom.nano ≡ amount 1 words
  pub initial : row.initial.nano ≡ amount 2 words
  pub minimum : row.minimum.nano ≡ amount 3 words
  pub maximum : row.maximum.nano ≡ amount 4 words
  pub diameter : row.diameter.nano ≡ amount 5 words
  pub curve : text_of row.curve ≡ tank_curve words
  pub overflows : row.overflows ≡ tank_overflows words

-- ---- links

pub record AreLinkEnds (words : List (List ℕ)) (ends : LinkEnds) : Type 0 where
  pub id : slice_get words 0 ≡ Some ends.id.now
  pub from : slice_get words 1 ≡ Some ends.from.now
  pub to : slice_get words 2 ≡ Some ends.to.now

-- what a pipe's status word says
abbrev pub pipe_status : List (List ℕ) → PipeStatus
pipe_status words = if has_check_valve words then CheckValve else (if is_closed_pipe words then Closed else Open)

pub record IsPipeRow (words : List (List ℕ)) (row : PipeRow) : Type 0 where
  pub ends : AreLinkEnds words row.ends
  pub length : row.length.nano ≡ amount 3 words
  pub diameter : row.diameter.nano ≡ amount 4 words
  pub roughness : row.roughness.nano ≡ amount 5 words
  pub minor : row.minor.nano ≡ pipe_minor words
  pub status : row.status ≡ pipe_status words

pub record IsPumpRow (words : List (List ℕ)) (row : PumpRow) : Type 0 where
  pub ends : AreLinkEnds words row.ends
  pub curve : pump_curve words ≡ Some row.curve.now
  pub speed : row.speed.nano ≡ pump_speed words
  pub pattern : text_of row.pattern ≡ pump_pattern words

-- a loss coefficient, a curve or a flow, by the type
abbrev pub IsValveSetting : List (List ℕ) → ValveSetting → Type 0
IsValveSetting words (Throttle coefficient) = (is_throttle words ≡ true) × (coefficient.nano ≡ amount 5 words)
IsValveSetting words (Curve curve) =
    (is_throttle words ≡ false) × (is_general words ≡ true) × (slice_get words 5 ≡ Some curve.now)
IsValveSetting words (Flow flow) =
    (is_throttle words ≡ false) × (is_general words ≡ false) × (flow.nano ≡ amount 5 words)

pub record IsValveRow (words : List (List ℕ)) (row : ValveRow) : Type 0 where
  pub ends : AreLinkEnds words row.ends
  pub diameter : row.diameter.nano ≡ amount 3 words
  pub setting : IsValveSetting words row.setting
  pub minor : row.minor.nano ≡ valve_minor words

-- ---- what belongs to them

pub record IsDemandRow (words : List (List ℕ)) (row : DemandRow) : Type 0 where
  pub junction : slice_get words 0 ≡ Some row.junction.now
  pub base : row.base.nano ≡ amount 1 words
  pub pattern : text_of row.pattern ≡ slice_get words 2

pub record IsEmitterRow (words : List (List ℕ)) (row : EmitterRow) : Type 0 where
  pub junction : slice_get words 0 ≡ Some row.junction.now
  pub coefficient : row.coefficient.nano ≡ amount 1 words

pub record IsCurveRow (words : List (List ℕ)) (row : CurveRow) : Type 0 where
  pub id : slice_get words 0 ≡ Some row.id.now
  pub x : row.x.nano ≡ amount 1 words
  pub y : row.y.nano ≡ amount 2 words

-- the multipliers are the words behind the ID
pub record IsPatternRow (words : List (List ℕ)) (row : PatternRow) : Type 0 where
  pub id : slice_get words 0 ≡ Some row.id.now
  pub multipliers : words_in row.multipliers.now ≡ drop 1 words

pub record IsStatusRow (words : List (List ℕ)) (row : StatusRow) : Type 0 where
  pub link : slice_get words 0 ≡ Some row.link.now
  pub to : IsAsked (word 1 words) row.to
