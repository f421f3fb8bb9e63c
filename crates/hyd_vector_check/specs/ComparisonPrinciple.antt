-- What certificates tell of the heads of assignments, and of each other.
-- Source: Ortega and Rheinboldt 1970 (supersolutions and subsolutions), made strict by a margin.
use Rattle.std.specs.Prelude.{ℕ, ◌<◌, ℤ, pos, ◌+ℤ◌, ◌-ℤ◌, ◌≤ℤ◌, ◌<ℤ◌, List, length}
use Rattle.hyd_spec.specs.ProgramTypes.{Project, LinkState}
use Rattle.hyd_spec.specs.declared.TankState.{TankState}
use Rattle.hyd_spec.specs.Lists.{Each}
use Rattle.hyd_spec.specs.Scale.{at_scale}
use Rattle.hyd_spec.specs.NodeNumbers.{tank_node}
use Rattle.hyd_spec.specs.Assignment.{Assignment, head_at, node_heads}
use Rattle.hyd_spec_certificates.specs.declared.Problem.{Problem}
use Rattle.hyd_spec_certificates.specs.declared.Problem.TheVariants.{Pinned}
use Rattle.hyd_spec_certificates.specs.declared.Side.{Side}
use Rattle.hyd_spec_certificates.specs.declared.Side.TheVariants.{Upper, Lower}
use Rattle.hyd_spec_certificates.specs.Interval.{Interval}
use Rattle.hyd_spec_certificates.specs.PeriodNetwork.{Grid, all_heads, fixed_heads}
use Rattle.hyd_spec_certificates.specs.Certificate.{IsCertificate}
use Rattle.hyd_theorems_on_definitions.specs.LyingInIntervals.{IsCompared}

-- ---- heads of assignments

-- at every scale, each head of every assignment whose tank levels lie in the intervals of the grid lies below u
abbrev pub LiesAbove : Grid → List ℤ → Type 0
LiesAbove grid u = (project : Project) (S time : ℕ) (intervals : List Interval) (levels : List ℤ)
    (tanks : List TankState) (links : List LinkState) (assignment : Assignment)
    → IsCompared project S time intervals levels tanks links assignment grid
    → Each assignment.heads (λ j h. h <ℤ at_scale S (head_at u j))

-- each lies above u
abbrev pub LiesBelow : Grid → List ℤ → Type 0
LiesBelow grid u = (project : Project) (S time : ℕ) (intervals : List Interval) (levels : List ℤ)
    (tanks : List TankState) (links : List LinkState) (assignment : Assignment)
    → IsCompared project S time intervals levels tanks links assignment grid
    → Each assignment.heads (λ j h. at_scale S (head_at u j) <ℤ h)

-- how far a head of a vector lies above that of a tank, of the fixed heads of a problem and side
abbrev pub above_tank : Project → Grid → Side → ℕ → List ℤ → ℕ → ℤ
above_tank project grid side tank u j =
    head_at u j -ℤ head_at (all_heads grid (Pinned tank) side u) (tank_node project tank)

-- at every scale, each head of every such assignment lies less far above that of a tank than in u
abbrev pub LiesAbovePinned : Grid → ℕ → List ℤ → Type 0
LiesAbovePinned grid tank u = (project : Project) (S time : ℕ) (intervals : List Interval) (levels : List ℤ)
    (tanks : List TankState) (links : List LinkState) (assignment : Assignment)
    → IsCompared project S time intervals levels tanks links assignment grid
    → Each assignment.heads (λ j h.
    (h -ℤ head_at (node_heads project S time levels assignment.heads) (tank_node project tank))
    <ℤ at_scale S (above_tank project grid Upper tank u j))

-- each lies farther above it than in u
abbrev pub LiesBelowPinned : Grid → ℕ → List ℤ → Type 0
LiesBelowPinned grid tank u = (project : Project) (S time : ℕ) (intervals : List Interval) (levels : List ℤ)
    (tanks : List TankState) (links : List LinkState) (assignment : Assignment)
    → IsCompared project S time intervals levels tanks links assignment grid
    → Each assignment.heads (λ j h.
    at_scale S (above_tank project grid Lower tank u j)
    <ℤ (h -ℤ head_at (node_heads project S time levels assignment.heads) (tank_node project tank)))

-- ---- certificates of the other side

-- the fixed heads of a problem on the LOWER side lie at most t above those of a problem on the UPPER side
abbrev pub FixedWithin : Grid → Problem → Problem → ℤ → Type 0
FixedWithin grid lower upper t =
    (m : ℕ) → (head_at (fixed_heads grid lower Lower) m -ℤ head_at (fixed_heads grid upper Upper) m) ≤ℤ t

-- each LOWER certificate lies strictly below u, where its fixed heads lie no higher, and else by at most as much above
abbrev pub LiesAboveLower : Grid → Problem → List ℤ → Type 0
LiesAboveLower grid problem u = (other : Problem) (v : List ℤ) (t : ℤ) → IsCertificate grid other Lower v
    → pos 0 ≤ℤ t → FixedWithin grid other problem t → (j : ℕ) → j < length v → head_at v j <ℤ (head_at u j +ℤ t)

-- each UPPER certificate lies strictly above u, likewise
abbrev pub LiesBelowUpper : Grid → Problem → List ℤ → Type 0
LiesBelowUpper grid problem u = (other : Problem) (v : List ℤ) (t : ℤ) → IsCertificate grid other Upper v
    → pos 0 ≤ℤ t → FixedWithin grid problem other t → (j : ℕ) → j < length u → head_at u j <ℤ (head_at v j +ℤ t)
