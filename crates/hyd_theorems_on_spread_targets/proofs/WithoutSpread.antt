-- Without a spread the first period is that of the file's network, and what edges say they say of it.
use Rattle.std.proofs.Common.{◌≡◌, ℕ, suc, ℤ, ◌≤ℤ◌, sym, subst, arith, List, [], ◌∷◌, refl}
use Rattle.std.specs.Prelude.{map, slice_set, ◌↔◌}
use Rattle.std.specs.List.{AllZip}
use Rattle.std.proofs.lemmas.Int.{ints}
use Rattle.hyd_num.specs.Rational.{Rational}
use Rattle.hyd_net.specs.Sound.{IsSound}
use Rattle.hyd_spec.specs.ProgramTypes.{Project, Tank, Closed}
use Rattle.hyd_spec.specs.Lists.{map_from}
use Rattle.hyd_spec.specs.Scale.{at_scale}
use Rattle.hyd_spec.specs.Assignment.{Assignment, IsAssignment}
use Rattle.hyd_spec.specs.AssignmentWithDraw.{IsAssignmentDrawing}
use Rattle.hyd_spec_certificates.specs.declared.Side.TheVariants.{Upper, Lower}
use Rattle.hyd_spec_certificates.specs.PeriodNetwork.{Grid, IsGrid}
use Rattle.hyd_spec_certificates.specs.RecordAndStanding.{Standing}
use Rattle.hyd_spec_certificates.specs.Decided.{links_at}
use Rattle.hyd_spec_certificates.specs.Valid.{IsGridAt}
use Rattle.hyd_spec_pressure_targets.specs.declared.Edge.{Edge}
use Rattle.hyd_spec_pressure_targets.specs.declared.Edge.TheVariants.{Flow, NoCertificate, RoundsSpent}
use Rattle.hyd_spec_pressure_targets.specs.FirstPeriod.{IsFirstDrawing, IsFirstWithShut}
use Rattle.hyd_spec_pressure_targets.specs.FirstPeriod.{IsFirstGrid, IsFirstGridWithShut}
use Rattle.hyd_spec_pressure_targets.specs.BracketOfDraws.{IsEnough, IsTooMuch}
use Rattle.hyd_spec_spread.specs.Spreads.{Spread, IsSpread, level_interval, no_spread}
use Rattle.hyd_spec_spread.specs.HistoriesWithin.{HoldsParts}
use Rattle.hyd_spec_spread_runs.specs.OutermostPairs.{Pair}
use Rattle.hyd_spec_spread_runs.specs.RunsForSpreads.{standing_within}
use Rattle.hyd_spec_spread_targets.specs.FirstPeriodWithin.{tanks_from, links_from}
use Rattle.hyd_spec_spread_targets.specs.FirstPeriodWithin.{IsFirstDrawingWithin, IsFirstWithShutWithin}
use Rattle.hyd_spec_spread_targets.specs.FirstPeriodWithin.{IsFirstPair, IsFirstPairWithShut}
use Rattle.hyd_spec_spread_targets.specs.BracketsOverPairs.{IsEnoughWithin, IsTooMuchWithin}
use Rattle.hyd_theorems_on_spread.proofs.NoSpread.{none-is-spread}
use Rattle.hyd_theorems_on_spread.proofs.OwnNetwork.{grid-alone, grid-outermost}
use Rattle.hyd_theorems_on_spread.proofs.PeriodsAlike.{assignment-alike}
use Rattle.hyd_theorems_on_spread_runs.proofs.RunsAlone.{standing-alone}
use Rattle.hyd_theorems_on_spread_targets.proofs.DrawingsAlike.{drawing-alike, alike-without}
use Rattle.hyd_theorems_on_spread_targets.proofs.OwnNetwork.{own-drawing, own-with-shut}

-- ---- what edges say of the file's own network

module _ (project : Project) (sound : IsSound project) (spread : Spread) (is : IsSpread project spread) (place : ℕ)
    (elevation : ℤ) (target : Rational) where
  pub own-enough : (edge : Edge) → IsEnoughWithin project spread place elevation target edge
      → IsEnough project place elevation target edge
  own-enough (Flow draw) holds = λ S q assignment first most.
      holds S q assignment (own-drawing project sound spread is S place q assignment first) most
  own-enough NoCertificate holds = tt
  own-enough RoundsSpent holds = tt

  pub own-too-much : (edge : Edge) → IsTooMuchWithin project spread place elevation target edge
      → IsTooMuch project place elevation target edge
  own-too-much (Flow draw) holds = λ S q assignment first least.
      holds S q assignment (own-drawing project sound spread is S place q assignment first) least
  own-too-much NoCertificate holds = tt
  own-too-much RoundsSpent holds = tt

-- ---- levels that no spread allows are the file's

exact-levels : (S from : ℕ) (tanks : List Tank) (zs : List ℤ)
    → AllZip (HoldsParts S) (map_from (level_interval no_spread) from tanks) zs
    → zs ≡ map (λ (tank : Tank). at_scale S tank.initial) tanks
exact-levels S from [] [] all = refl
exact-levels S from [] (z ∷ zs) all = absurd all
exact-levels S from (tank ∷ tanks) [] all = absurd all
exact-levels S from (tank ∷ tanks) (z ∷ zs) all =
    let low : at_scale S tank.initial ≤ℤ z = all.0.low in
    let high : z ≤ℤ at_scale S tank.initial = all.0.high in
    let here : z ≡ at_scale S tank.initial = omega (arith, ints, low, high) in
    let rest = exact-levels S (suc from) tanks zs all.1 in
    λ i. here i ∷ rest i

module _ (project : Project) (sound : IsSound project) where
  -- ---- assignments

  pub drawing-alone : (S place : ℕ) (q : ℤ) (assignment : Assignment)
      → IsFirstDrawingWithin project no_spread S place q assignment ↔ IsFirstDrawing project S place q assignment
  drawing-alone S place q assignment = (
    λ first. subst (λ (zs : List ℤ). IsAssignmentDrawing project S 0 zs (tanks_from project S zs)
        (links_from project S zs) place q assignment)
        (exact-levels S 0 project.tanks.list first.levels first.start.levels_are)
        (drawing-alike project first.nodes 0 (alike-without project sound first.nodes 0 first.start.within) S
        first.levels (tanks_from project S first.levels) (links_from project S first.levels) place q assignment
        first.assigned),
    own-drawing project sound no_spread (none-is-spread project sound) S place q assignment,
  )

  pub with-shut-alone : (S pipe : ℕ) (assignment : Assignment)
      → IsFirstWithShutWithin project no_spread S pipe assignment ↔ IsFirstWithShut project S pipe assignment
  with-shut-alone S pipe assignment = (
    λ first. subst (λ (zs : List ℤ). IsAssignment project S 0 zs (tanks_from project S zs)
        (slice_set (links_from project S zs) pipe Closed) assignment)
        (exact-levels S 0 project.tanks.list first.levels first.start.levels_are)
        (assignment-alike project first.nodes 0 (alike-without project sound first.nodes 0 first.start.within) S
        first.levels (tanks_from project S first.levels) (slice_set (links_from project S first.levels) pipe Closed)
        assignment first.assigned),
    own-with-shut project sound no_spread (none-is-spread project sound) S pipe assignment,
  )

  -- ---- grids

  abbrev start : Standing
  start = standing_within project no_spread

  -- the grid of the first period with one link closed, at a standing
  abbrev IsShutAt : ℕ → Grid → Standing → Type 0
  IsShutAt pipe grid standing = IsGrid project 0 standing.levels standing.tanks
      (slice_set (links_at project standing) pipe Closed) grid

  pub pair-alone : (pair : Pair)
      → IsFirstPair project no_spread pair ↔ (IsFirstGrid project pair.upper × IsFirstGrid project pair.lower)
  pair-alone pair = (
    λ is. (
      subst (λ (st : Standing). IsGridAt project st pair.upper) (standing-alone project)
          (grid-alone project sound Upper 0 start.levels start.tanks (links_at project start) pair.upper (is Upper)),
      subst (λ (st : Standing). IsGridAt project st pair.lower) (standing-alone project)
          (grid-alone project sound Lower 0 start.levels start.tanks (links_at project start) pair.lower (is Lower)),
    ),
    back,
  )
    where
      back : IsFirstGrid project pair.upper × IsFirstGrid project pair.lower → IsFirstPair project no_spread pair
      back grids Upper = grid-outermost project sound Upper 0 start.levels start.tanks (links_at project start)
          pair.upper (subst (λ (st : Standing). IsGridAt project st pair.upper) (sym (standing-alone project)) grids.0)
      back grids Lower = grid-outermost project sound Lower 0 start.levels start.tanks (links_at project start)
          pair.lower (subst (λ (st : Standing). IsGridAt project st pair.lower) (sym (standing-alone project)) grids.1)

  pub shut-pair-alone : (pipe : ℕ) (pair : Pair) → IsFirstPairWithShut project no_spread pipe pair
      ↔ (IsFirstGridWithShut project pipe pair.upper × IsFirstGridWithShut project pipe pair.lower)
  shut-pair-alone pipe pair = (
    λ is. (
      subst (IsShutAt pipe pair.upper) (standing-alone project) (grid-alone project sound Upper 0 start.levels
          start.tanks (slice_set (links_at project start) pipe Closed) pair.upper (is Upper)),
      subst (IsShutAt pipe pair.lower) (standing-alone project) (grid-alone project sound Lower 0 start.levels
          start.tanks (slice_set (links_at project start) pipe Closed) pair.lower (is Lower)),
    ),
    back,
  )
    where
      back : IsFirstGridWithShut project pipe pair.upper × IsFirstGridWithShut project pipe pair.lower
          → IsFirstPairWithShut project no_spread pipe pair
      back grids Upper = grid-outermost project sound Upper 0 start.levels start.tanks
          (slice_set (links_at project start) pipe Closed) pair.upper
          (subst (IsShutAt pipe pair.upper) (sym (standing-alone project)) grids.0)
      back grids Lower = grid-outermost project sound Lower 0 start.levels start.tanks
          (slice_set (links_at project start) pipe Closed) pair.lower
          (subst (IsShutAt pipe pair.lower) (sym (standing-alone project)) grids.1)

  -- ---- what edges say

  module _ (place : ℕ) (elevation : ℤ) (target : Rational) where
    enough-back : (edge : Edge) → IsEnough project place elevation target edge
        → IsEnoughWithin project no_spread place elevation target edge
    enough-back (Flow draw) holds = λ S q assignment first most.
        holds S q assignment ((drawing-alone S place q assignment).0 first) most
    enough-back NoCertificate holds = tt
    enough-back RoundsSpent holds = tt

    too-much-back : (edge : Edge) → IsTooMuch project place elevation target edge
        → IsTooMuchWithin project no_spread place elevation target edge
    too-much-back (Flow draw) holds = λ S q assignment first least.
        holds S q assignment ((drawing-alone S place q assignment).0 first) least
    too-much-back NoCertificate holds = tt
    too-much-back RoundsSpent holds = tt

    pub enough-alone : (edge : Edge) → IsEnoughWithin project no_spread place elevation target edge
        ↔ IsEnough project place elevation target edge
    enough-alone edge = (
      own-enough project sound no_spread (none-is-spread project sound) place elevation target edge,
      enough-back edge,
    )

    pub too-much-alone : (edge : Edge) → IsTooMuchWithin project no_spread place elevation target edge
        ↔ IsTooMuch project place elevation target edge
    too-much-alone edge = (
      own-too-much project sound no_spread (none-is-spread project sound) place elevation target edge,
      too-much-back edge,
    )
