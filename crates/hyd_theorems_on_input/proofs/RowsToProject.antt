-- What holds of the rows of a text without a fault, of its network.
use Rattle.std.proofs.Common.{ℕ, List}
use Rattle.std.specs.Prelude.{All}
use Rattle.hyd_spec_lines.specs.Lines.{items_of, rows_in}
use Rattle.hyd_net.specs.NetworkRanges.{HasOptions, IsJunction, IsReservoir, IsTank, HasSizes}
use Rattle.hyd_net.specs.LinkStates.{CanHave}
use Rattle.hyd_net.specs.Sound.{HasIds, IsWithinLimits, AreTimes, HasEnds, IsPattern, IsSound}
use Rattle.hyd_net.specs.RoundedFileNumbers.{IsAllMade}
use Rattle.hyd_net.specs.ControlsAndRules.{node_count, IsControl, IsRule}
use Rattle.hyd_net.specs.declared.project.Project.{Project}
use Rattle.hyd_spec_input.specs.Faults.{HasNoFault}
use Rattle.hyd_spec_input.specs.Project.{IsProject}
use Rattle.hyd_theorems_on_input.proofs.RowsWithoutFault.{right_rows}
use Rattle.hyd_theorems_on_input.proofs.Names.{has_ids}
use Rattle.hyd_theorems_on_input.proofs.TimesAndClockTimes.{are_times}
use Rattle.hyd_theorems_on_input.proofs.OptionRanges.{has_options}
use Rattle.hyd_theorems_on_input.proofs.NodeRanges as nodes
use Rattle.hyd_theorems_on_input.proofs.LinkKinds as links
use Rattle.hyd_theorems_on_input.proofs.LinkStates as states
use Rattle.hyd_theorems_on_input.proofs.ControlLines as controls
use Rattle.hyd_theorems_on_input.proofs.RuleParts as rules
use Rattle.hyd_theorems_on_input.proofs.CountsWithinLimits.{within_limits}
use Rattle.hyd_theorems_on_input.proofs.PatternRows as patterns
use Rattle.hyd_theorems_on_input.proofs.RoundedForms.{all_made}

pub ids_right : (text : List ℕ) (p : Project) → HasNoFault text → IsProject (rows_in (items_of text)) p → HasIds p
ids_right text p none of = has_ids (rows_in (items_of text)) p (right_rows text none) of

pub times_right : (text : List ℕ) (p : Project) → HasNoFault text → IsProject (rows_in (items_of text)) p
    → AreTimes p.times
times_right text p none of = are_times (rows_in (items_of text)) p.times (right_rows text none) of.times

pub options_right : (text : List ℕ) (p : Project) → HasNoFault text → IsProject (rows_in (items_of text)) p
    → HasOptions p.options p.patterns.list
options_right text p none of = has_options (rows_in (items_of text)) p (right_rows text none) of

pub junctions_right : (text : List ℕ) (p : Project) → HasNoFault text → IsProject (rows_in (items_of text)) p
    → All (IsJunction p.options.unit p.patterns.list) p.junctions.list
junctions_right text p none of = nodes.junctions_right (rows_in (items_of text)) p (right_rows text none) of

pub reservoirs_right : (text : List ℕ) (p : Project) → HasNoFault text → IsProject (rows_in (items_of text)) p
    → All (IsReservoir p.patterns.list) p.reservoirs.list
reservoirs_right text p none of = nodes.reservoirs_right (rows_in (items_of text)) p (right_rows text none) of

pub tanks_right : (text : List ℕ) (p : Project) → HasNoFault text → IsProject (rows_in (items_of text)) p
    → All (IsTank p.shapes.list) p.tanks.list
tanks_right text p none of = nodes.tanks_right (rows_in (items_of text)) p (right_rows text none) of

pub ends_right : (text : List ℕ) (p : Project) → HasNoFault text → IsProject (rows_in (items_of text)) p
    → All (HasEnds (node_count p)) p.links.list
ends_right text p none of = links.ends_right (rows_in (items_of text)) p (right_rows text none) of

pub sizes_right : (text : List ℕ) (p : Project) → HasNoFault text → IsProject (rows_in (items_of text)) p
    → All (λ l. HasSizes p.options.unit p.patterns.list p.bends.list l.kind) p.links.list
sizes_right text p none of = links.sizes_right (rows_in (items_of text)) p (right_rows text none) of

pub states_right : (text : List ℕ) (p : Project) → HasNoFault text → IsProject (rows_in (items_of text)) p
    → All (λ l. CanHave l.kind l.start) p.links.list
states_right text p none of = states.states_right (rows_in (items_of text)) p (right_rows text none) of

pub controls_right : (text : List ℕ) (p : Project) → HasNoFault text → IsProject (rows_in (items_of text)) p
    → All (IsControl p) p.controls.list
controls_right text p none of = controls.controls_right (rows_in (items_of text)) p (right_rows text none) of

pub rules_right : (text : List ℕ) (p : Project) → HasNoFault text → IsProject (rows_in (items_of text)) p
    → All (IsRule p) p.rules.list
rules_right text p none of = rules.rules_right (rows_in (items_of text)) p (right_rows text none) of

pub counts_right : (text : List ℕ) (p : Project) → HasNoFault text → IsProject (rows_in (items_of text)) p
    → IsWithinLimits p
counts_right text p none of = within_limits (rows_in (items_of text)) p (right_rows text none) of

pub patterns_right : (text : List ℕ) (p : Project) → HasNoFault text → IsProject (rows_in (items_of text)) p
    → All IsPattern p.patterns.list
patterns_right text p none of = patterns.patterns_right (rows_in (items_of text)) p (right_rows text none) of

pub made_right : (text : List ℕ) (p : Project) → HasNoFault text → IsProject (rows_in (items_of text)) p → IsAllMade p
made_right text p none of = all_made (rows_in (items_of text)) p (right_rows text none) of

pub all_right : (text : List ℕ) (p : Project) → HasNoFault text → IsProject (rows_in (items_of text)) p → IsSound p
all_right text p none of = record {
  ids = ids_right text p none of;
  counts = counts_right text p none of;
  links = ends_right text p none of;
  states = states_right text p none of;
  quantities = record {
    options = options_right text p none of;
    junctions = junctions_right text p none of;
    reservoirs = reservoirs_right text p none of;
    tanks = tanks_right text p none of;
    links = sizes_right text p none of;
  };
  patterns = patterns_right text p none of;
  controls = controls_right text p none of;
  rules = rules_right text p none of;
  times = times_right text p none of;
  made = made_right text p none of;
}
