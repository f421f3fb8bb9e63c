-- Curves by straight lines that pumps and general purpose valves name, each name once.
use Rattle.std.specs.Prelude.{◌≡◌, ◌≤◌, ◌+◌, ◌^◌, ℕ, List, [], ◌++◌, length, take, unsigned_abs}
use Rattle.std.specs.List.{flat_map}
use Rattle.hyd_spec_lines.specs.Lines.{Row}
use Rattle.hyd_spec_lines.specs.declared.section.Section.TheVariants.{Pumps, Valves}
use Rattle.hyd_net.specs.ListView.{ListView}
use Rattle.hyd_net.specs.declared.curves.HeadPoint.{HeadPoint}
use Rattle.hyd_spec_input.specs.MeaningsAcrossRows.{as_list, bent_name, new_names}
use Rattle.hyd_spec_input.specs.NodeAndLinkRows.{valve_curve}
use Rattle.hyd_spec_input.specs.Project.{Match, bend_points}
use Rattle.hyd_spec_input.specs.SectionsAndTables.{rows_of}
use Rattle.hyd_curves.specs.declared.straight_line_curves.Bends.{Bends}

-- a flow and a head of at most 10^18 ticks either way
pub record IsSmallHead (point : HeadPoint) : Type 0 where
  pub flow : unsigned_abs point.flow ≤ 10 ^ 18
  pub head : unsigned_abs point.head ≤ 10 ^ 18

-- each list has the points of its name
abbrev pub AreBends : List Row → Bends → Type 0
AreBends rows bends = Match (λ (name : List ℕ) (list : ListView HeadPoint). list.list ≡ bend_points rows name)
    bends.names
    bends.lists.list

-- the names are these, each where it first stands, and at most so many
pub record AreOf (rows : List Row) (named : List (List ℕ)) (most : ℕ) (bends : Bends) : Type 0 where
  pub names : bends.names ≡ new_names [] named
  pub few : length bends.names ≤ most
  pub lists : AreBends rows bends

-- the curves that rows of pumps name, and rows of valves
abbrev pub pump_names : List Row → List Row → List (List ℕ)
pump_names rows some = flat_map (bent_name rows) (rows_of Pumps some)

abbrev pub valve_names : List Row → List (List ℕ)
valve_names some = flat_map (λ (row : Row). as_list (valve_curve row.words)) (rows_of Valves some)

-- those of the pumps of the first k rows
abbrev pub AreOfPumps : List Row → ℕ → Bends → Type 0
AreOfPumps rows k bends = AreOf rows (pump_names rows (take k rows)) k bends

-- those of all pumps and the valves of the first k rows
abbrev pub AreOfValves : List Row → ℕ → Bends → Type 0
AreOfValves rows k bends = AreOf rows (pump_names rows rows ++ valve_names (take k rows)) (length rows + k) bends
