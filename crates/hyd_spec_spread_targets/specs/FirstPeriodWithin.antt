-- The first period of every history within a spread, with water drawn at a junction besides, or with one pipe shut; and
-- the pairs of outermost grids of both.
-- Source: this program's.
use Rattle.std.specs.Prelude.{ℕ, ℤ, List, slice_set}
use Rattle.std.specs.List.{AllZip}
use Rattle.hyd_spec.specs.ProgramTypes.{Project, LinkState, Closed}
use Rattle.hyd_spec.specs.declared.TankState.{TankState}
use Rattle.hyd_spec.specs.Assignment.{Assignment, IsAssignment}
use Rattle.hyd_spec.specs.AssignmentWithDraw.{IsAssignmentDrawing}
use Rattle.hyd_spec.specs.PumpPatternsAndSimpleControls.{started, acts_at}
use Rattle.hyd_spec.specs.History.{tank_states, initial_links}
use Rattle.hyd_spec_certificates.specs.declared.Side.{Side}
use Rattle.hyd_spec_certificates.specs.Decided.{links_at}
use Rattle.hyd_spec_spread.specs.Spreads.{Spread}
use Rattle.hyd_spec_spread.specs.IntervalsOfData.{known_levels}
use Rattle.hyd_spec_spread.specs.NetworksWithin.{NodeData, with_data, IsWithin}
use Rattle.hyd_spec_spread.specs.HistoriesWithin.{HoldsParts}
use Rattle.hyd_spec_spread.specs.OutermostGrids.{IsOutermostGrid}
use Rattle.hyd_spec_spread_runs.specs.OutermostPairs.{Pair, grid_on}
use Rattle.hyd_spec_spread_runs.specs.RunsForSpreads.{standing_within, ArePairAt}

-- ---- the start

-- The states of tanks in a first period that begins with these levels (S-th parts of a head tick).
abbrev pub tanks_from : Project → ℕ → List ℤ → List TankState
tanks_from project S levels = tank_states S project.tanks.list levels

-- The states of links in it: those of the file, after pump patterns and controls.
abbrev pub links_from : Project → ℕ → List ℤ → List LinkState
links_from project S levels = started project 0 (acts_at S levels) (initial_links project)

-- A network with these data is within the spread at time 0, and the spread allows these levels at the start.
pub record IsStartWithin (project : Project) (spread : Spread) (S : ℕ) (nodes : NodeData) (levels : List ℤ) : Type 0
  where
    pub within : IsWithin project spread 0 nodes
    pub levels_are : AllZip (HoldsParts S) (known_levels project spread) levels

-- ---- assignments

-- An assignment of the first period of some network within the spread, with q S-th parts of a flow tick drawn at
-- junction number `place` besides.
pub record IsFirstDrawingWithin (project : Project) (spread : Spread) (S place : ℕ) (q : ℤ) (assignment : Assignment)
    : Type 0 where
  pub nodes : NodeData
  pub levels : List ℤ
  pub start : IsStartWithin project spread S nodes levels
  pub assigned : IsAssignmentDrawing (with_data project nodes) S 0 levels (tanks_from project S levels)
      (links_from project S levels) place q assignment

-- An assignment of the first period of some network within the spread, with link number `pipe` closed, whatever
-- patterns and controls set it to.
pub record IsFirstWithShutWithin (project : Project) (spread : Spread) (S pipe : ℕ) (assignment : Assignment)
    : Type 0 where
  pub nodes : NodeData
  pub levels : List ℤ
  pub start : IsStartWithin project spread S nodes levels
  pub assigned : IsAssignment (with_data project nodes) S 0 levels (tanks_from project S levels)
      (slice_set (links_from project S levels) pipe Closed) assignment

-- ---- grids

-- The outermost grids of the first period.
abbrev pub IsFirstPair : Project → Spread → Pair → Type 0
IsFirstPair project spread pair = ArePairAt project spread (standing_within project spread) pair

-- The outermost grids of the first period with one link closed.
abbrev pub IsFirstPairWithShut : Project → Spread → ℕ → Pair → Type 0
IsFirstPairWithShut project spread pipe pair =
    (side : Side) → IsOutermostGrid project spread side 0 (standing_within project spread).levels
    (standing_within project spread).tanks
    (slice_set (links_at project (standing_within project spread)) pipe Closed) (grid_on side pair)
