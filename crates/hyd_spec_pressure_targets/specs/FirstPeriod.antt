-- The first period of every history, with water drawn at a junction besides, or with one pipe shut; and the grids of
-- both.
-- Source: this program's.
use Rattle.std.specs.Prelude.{ℕ, ℤ, List, slice_set, Bool, true, false, Some, None, if◌then◌else◌}
use Rattle.hyd_spec.specs.ProgramTypes.{Project, Link, LinkKind, LinkState, Closed, PipeLink, CheckPipe}
use Rattle.hyd_spec.specs.declared.TankState.{TankState}
use Rattle.hyd_spec.specs.Lists.{map_from, present}
use Rattle.hyd_spec.specs.Assignment.{Assignment, IsAssignment}
use Rattle.hyd_spec.specs.AssignmentWithDraw.{IsAssignmentDrawing}
use Rattle.hyd_spec.specs.PumpPatternsAndSimpleControls.{started, acts_at}
use Rattle.hyd_spec.specs.History.{tank_states, initial_levels, initial_links}
use Rattle.hyd_spec_certificates.specs.PeriodNetwork.{Grid, IsGrid}
use Rattle.hyd_spec_certificates.specs.RecordAndStanding.{initial_standing}
use Rattle.hyd_spec_certificates.specs.Decided.{links_at}
use Rattle.hyd_spec_certificates.specs.Valid.{IsGridAt}

-- ---- assignments

-- The states of tanks in the first period.
abbrev pub first_tanks : Project → ℕ → List TankState
first_tanks project S = tank_states S project.tanks.list (initial_levels project S)

-- The states of links in it: those of the file, after pump patterns and controls.
abbrev pub first_links : Project → ℕ → List LinkState
first_links project S = started project 0 (acts_at S (initial_levels project S)) (initial_links project)

-- An assignment of the first period with q S-th parts of a flow tick drawn at junction number `place` besides.
abbrev pub IsFirstDrawing : Project → ℕ → ℕ → ℤ → Assignment → Type 0
IsFirstDrawing project S place q assignment =
    IsAssignmentDrawing project S 0 (initial_levels project S) (first_tanks project S) (first_links project S) place q
    assignment

-- An assignment of the first period with link number `pipe` closed, whatever patterns and controls set it to.
abbrev pub IsFirstWithShut : Project → ℕ → ℕ → Assignment → Type 0
IsFirstWithShut project S pipe assignment =
    IsAssignment project S 0 (initial_levels project S) (first_tanks project S)
    (slice_set (first_links project S) pipe Closed) assignment

-- ---- grids

-- The grid of the first period.
abbrev pub IsFirstGrid : Project → Grid → Type 0
IsFirstGrid project grid = IsGridAt project (initial_standing project) grid

-- The grid of the first period with one link closed.
abbrev pub IsFirstGridWithShut : Project → ℕ → Grid → Type 0
IsFirstGridWithShut project pipe grid =
    IsGrid project 0 (initial_standing project).levels (initial_standing project).tanks
    (slice_set (links_at project (initial_standing project)) pipe Closed) grid

-- ---- pipes

-- The link is a pipe, with a check valve or without.
abbrev pub is_pipe : LinkKind → Bool
is_pipe (PipeLink capacity) = true
is_pipe (CheckPipe capacity) = true
is_pipe other = false

-- The numbers of the pipes among the links, in order.
abbrev pub pipes_of : Project → List ℕ
pipes_of project =
    present (map_from (λ l (link : Link). if is_pipe link.kind then Some l else None) 0 project.links.list)
