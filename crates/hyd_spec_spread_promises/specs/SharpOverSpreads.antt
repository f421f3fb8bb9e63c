-- How sharp a period of a run for a spread is: how far the vectors of each outermost network may be apart. Between the
-- two networks the vectors are as wide as the spread makes them, however sharp they are.
-- Source: this program's.
use Rattle.std.specs.Prelude.{◌≡◌, ◌⊎◌, ℤ, pos, ◌+ℤ◌, ◌-ℤ◌, ◌*ℤ◌, ◌≤ℤ◌, true, List, MatchBool}
use Rattle.hyd_spec.specs.Assignment.{head_at}
use Rattle.hyd_spec.specs.Lists.{Each}
use Rattle.hyd_spec.specs.ProgramTypes.{Project}
use Rattle.hyd_spec_certificates.specs.declared.Problem.{Problem}
use Rattle.hyd_spec_certificates.specs.declared.Problem.TheVariants.{Main}
use Rattle.hyd_spec_certificates.specs.declared.Side.{Side}
use Rattle.hyd_spec_certificates.specs.declared.Side.TheVariants.{Upper, Lower}
use Rattle.hyd_spec_certificates.specs.Certificate.{IsCertificate, IsTight}
use Rattle.hyd_spec_certificates.specs.Decided.{level_of_tank}
use Rattle.hyd_spec_certificates.specs.Interval.{Interval, width}
use Rattle.hyd_spec_certificates.specs.Narrow.{widest}
use Rattle.hyd_spec_certificates.specs.RecordAndStanding.{Record, vector_of}
use Rattle.hyd_spec_certificates.specs.Valid.{IsProblem}
use Rattle.hyd_spec_open_ends.specs.OpenStandings.{OpenStanding}
use Rattle.hyd_spec_reports.specs.PromisesOfRunsAndChecks.{Sharpness}
use Rattle.hyd_spec_spread.specs.Spreads.{Spread}
use Rattle.hyd_spec_spread_runs.specs.OutermostPairs.{Pair, grid_on}
use Rattle.hyd_spec_open_spreads.specs.OpenRunsForSpreads.{OpenFoundOver}
use Rattle.hyd_spec_spread_reports.specs.TextsOfSpreadReports.{says_nothing}

-- ---- narrow records

-- For a width W in head ticks: no head of one vector lies farther above that of another than W and the widest of the
-- level intervals at the start.
abbrev pub AreClose : ℤ → List Interval → List ℤ → List ℤ → Type 0
AreClose W levels upper lower = Each upper (λ j h. (h -ℤ head_at lower j) ≤ℤ (W +ℤ widest levels))

-- A record is narrow for a spread: the network of its UPPER vectors has a LOWER certificate to which its own is close,
-- and the network of its LOWER vectors an UPPER one.
pub record IsNarrowOver (W : ℤ) (levels : List Interval) (pair : Pair) (row : Record) : Type 0 where
  pub lower : List ℤ
  pub is_lower : IsCertificate pair.upper Main Lower lower
  pub upper_close : AreClose W levels row.main.upper lower
  pub upper : List ℤ
  pub is_upper : IsCertificate pair.lower Main Upper upper
  pub lower_close : AreClose W levels upper row.main.lower

-- Where both the start and the end of a period are known to the second, no level interval is more than twice as wide as
-- it was before, and a hundredth of W besides.
abbrev pub StaysNarrow : ℤ → OpenStanding → OpenStanding → Type 0
StaysNarrow W standing next = standing.late ≡ 0 → next.late ≡ 0 → Each next.known.levels (λ k level.
    (pos 100 *ℤ width level) ≤ℤ ((pos 200 *ℤ width (level_of_tank standing.known k)) +ℤ W))

-- A period is narrow for a spread: its record is; and where there is no spread, which would make heads and levels wide,
-- the vectors of the record are close to each other, and its levels stay narrow.
pub record IsNarrowWithin (W : ℤ) (spread : Spread) (standing : OpenStanding) (pair : Pair) (row : Record)
    (next : OpenStanding) : Type 0 where
  pub vectors : IsNarrowOver W standing.known.levels pair row
  pub heads : says_nothing spread ≡ true → AreClose W standing.known.levels row.main.upper row.main.lower
  pub levels : says_nothing spread ≡ true → StaysNarrow W standing next

-- ---- sharp runs

-- The vectors of a record are the tight ones, each on the grid of its side.
abbrev pub AreTightOver : Project → Pair → Record → Type 0
AreTightOver project pair row =
    (problem : Problem) (side : Side) → IsProblem project problem
    → IsTight (grid_on side pair) problem side (vector_of row problem side)

-- The period is narrow or its vectors are tight; the latter where that was asked for.
abbrev pub IsSharpWithin : Project → Spread → Sharpness → OpenFoundOver → Type 0
IsSharpWithin project spread sharpness here =
    MatchBool sharpness.tight (AreTightOver project here.pair here.found.row)
    (AreTightOver project here.pair here.found.row
    ⊎ IsNarrowWithin sharpness.width spread here.standing here.pair here.found.row here.next)
