-- What certificates tell of the heads of assignments, and of each other.
use Rattle.std.proofs.Common.{◌≡◌, ℕ, suc, ◌+◌, ℤ, pos, ◌*ℤ◌, ap, ◌∙◌, arith, List, [], ◌∷◌, ◌++◌, length}
use Rattle.std.specs.Prelude.{map}
use Rattle.std.proofs.lemmas.Int.{ints}
use Rattle.std.proofs.lemmas.Option.{slice_get_within, get_or_from_slice_get}
use Rattle.hyd_num.proofs.Integers.{times_minus}
use Rattle.hyd_spec.specs.ProgramTypes.{Project, LinkState, Reservoir}
use Rattle.hyd_spec.specs.declared.TankState.{TankState}
use Rattle.hyd_spec.specs.Lists.{map_from}
use Rattle.hyd_spec.specs.Scale.{at_scale}
use Rattle.hyd_spec.specs.NodeNumbers.{tank_node, junction_count, reservoir_count}
use Rattle.hyd_spec.specs.DemandsHeadsAndPumpLifts.{reservoir_head}
use Rattle.hyd_spec.specs.Assignment.{head_at, node_heads, tank_heads}
use Rattle.hyd_spec_certificates.specs.declared.Problem.{Problem}
use Rattle.hyd_spec_certificates.specs.declared.Problem.TheVariants.{Main, Pinned}
use Rattle.hyd_spec_certificates.specs.declared.Side.{Side}
use Rattle.hyd_spec_certificates.specs.declared.Side.TheVariants.{Upper, Lower}
use Rattle.hyd_spec_certificates.specs.Interval.{Interval}
use Rattle.hyd_spec_certificates.specs.PeriodNetwork.{Grid, IsGrid, all_heads, tank_intervals, end_on, tank_side}
use Rattle.hyd_spec_certificates.specs.Certificate.{IsCertificate}
use Rattle.hyd_theorems_on_definitions.specs.SoundLawsAndGrids.{IsSteady}
use Rattle.hyd_theorems_on_definitions.proofs.ComparisonPrinciple.{below_main, above_main, one_each}
use Rattle.hyd_theorems_on_definitions.proofs.PinnedTankInflows.{upper_within, lower_within}
use Rattle.hyd_theorems_on_definitions.proofs.TwoSides.{lower-below}
use Rattle.hyd_vector_check.specs.ComparisonPrinciple.{LiesAbove, LiesBelow, LiesAbovePinned, LiesBelowPinned}
use Rattle.hyd_vector_check.specs.ComparisonPrinciple.{LiesAboveLower}
use Rattle.hyd_vector_check.specs.ComparisonPrinciple.{LiesBelowUpper}

past : (xs ys : List ℤ) (k : ℕ) → head_at (xs ++ ys) (length xs + k) ≡ head_at ys k
past [] ys k = ap (head_at ys) (let e : 0 + k ≡ k = omega arith in e)
past (x ∷ xs) ys k =
    ap (head_at (x ∷ (xs ++ ys))) (let e : suc (length xs) + k ≡ suc (length xs + k) = omega arith in e) ∙ past xs ys k

past-map : {X : Type 0} (f : X → ℤ) (xs : List X) (ys : List ℤ) (k : ℕ)
    → head_at (map f xs ++ ys) (length xs + k) ≡ head_at ys k
past-map f [] ys k = ap (head_at ys) (let e : 0 + k ≡ k = omega arith in e)
past-map f (x ∷ xs) ys k =
    ap (head_at (f x ∷ (map f xs ++ ys))) (let e : suc (length xs) + k ≡ suc (length xs + k) = omega arith in e)
    ∙ past-map f xs ys k

-- a node after the junctions, where there is one head for each
after : (project : Project) (heads ys : List ℤ) (k : ℕ) → length heads ≡ junction_count project
    → head_at (heads ++ ys) (tank_node project k) ≡ head_at ys (reservoir_count project + k)
after project heads ys k each =
    ap (head_at (heads ++ ys)) (let e : (junction_count project + reservoir_count project) + k ≡ length heads
    + (reservoir_count project + k) = omega (arith, each) in e)
    ∙ past heads ys (reservoir_count project + k)

-- the head of a tank in an assignment
tank-assigned : (project : Project) (S time : ℕ) (levels heads : List ℤ) (k : ℕ) → length heads ≡ junction_count project
    → head_at (node_heads project S time levels heads) (tank_node project k)
    ≡ head_at (tank_heads S project.tanks.list levels) k
tank-assigned project S time levels heads k each =
    after project heads _ k each
    ∙ past-map (λ (r : Reservoir). at_scale S (reservoir_head project time r)) project.reservoirs.list
    (tank_heads S project.tanks.list levels) k

-- and among the fixed heads
tank-fixed : (project : Project) (time : ℕ) (intervals : List Interval) (tanks : List TankState)
    (links : List LinkState) (grid : Grid)
    (problem : Problem) (side : Side) (u : List ℤ) (k : ℕ) → IsGrid project time intervals tanks links grid
    → length u ≡ junction_count project
    → head_at (all_heads grid problem side u) (tank_node project k)
    ≡ head_at (map_from (λ n tank. end_on (tank_side problem side n) tank) 0
    (tank_intervals project.tanks.list intervals)) k
tank-fixed project time intervals tanks links grid problem side u k is each =
    after project u _ k each
    ∙ rw (is.reservoirs, is.tank_heads) (past-map (reservoir_head project time) project.reservoirs.list
    (map_from (λ n tank. end_on (tank_side problem side n) tank) 0 (tank_intervals project.tanks.list intervals)) k)

module _ (grid : Grid) (u : List ℤ) where
  pub above-all : IsCertificate grid Main Upper u → LiesAbove grid u
  above-all is project S time intervals levels tanks links assignment compared =
      below_main project S time intervals levels tanks links assignment grid u compared is

  pub below-all : IsCertificate grid Main Lower u → LiesBelow grid u
  below-all is project S time intervals levels tanks links assignment compared =
      above_main project S time intervals levels tanks links assignment grid u compared is

  pub above-pinned : (k : ℕ) → IsCertificate grid (Pinned k) Upper u → LiesAbovePinned grid k u
  above-pinned k is project S time intervals levels tanks links assignment compared j h at =
      let inside = slice_get_within assignment.heads j h at in
      let same = one_each project S time intervals levels tanks links assignment grid (Pinned k) Upper u compared is in
      let each = compared.assigned.head_each in
      let within = upper_within project S time intervals levels tanks links assignment grid k u j compared is inside in
      let here : head_at assignment.heads j ≡ h = get_or_from_slice_get assignment.heads j h (pos 0) at in
      let a = tank-assigned project S time levels assignment.heads k each in
      let b = ap (λ (z : ℤ). pos S *ℤ z) (tank-fixed project time intervals tanks links grid (Pinned k) Upper u k
      compared.is_grid (omega (arith, same, each))) in
      omega (
        arith,
        ints,
        within,
        here,
        a,
        b,
        times_minus S (head_at u j)
            (head_at (all_heads grid (Pinned k) Upper u) (tank_node project k)),
      )

  pub below-pinned : (k : ℕ) → IsCertificate grid (Pinned k) Lower u → LiesBelowPinned grid k u
  below-pinned k is project S time intervals levels tanks links assignment compared j h at =
      let inside = slice_get_within assignment.heads j h at in
      let same = one_each project S time intervals levels tanks links assignment grid (Pinned k) Lower u compared is in
      let each = compared.assigned.head_each in
      let within = lower_within project S time intervals levels tanks links assignment grid k u j compared is inside in
      let here : head_at assignment.heads j ≡ h = get_or_from_slice_get assignment.heads j h (pos 0) at in
      let a = tank-assigned project S time levels assignment.heads k each in
      let b = ap (λ (z : ℤ). pos S *ℤ z) (tank-fixed project time intervals tanks links grid (Pinned k) Lower u k
      compared.is_grid (omega (arith, same, each))) in
      omega (
        arith,
        ints,
        within,
        here,
        a,
        b,
        times_minus S (head_at u j)
            (head_at (all_heads grid (Pinned k) Lower u) (tank_node project k)),
      )

  pub above-lower : IsSteady grid → (problem : Problem) → IsCertificate grid problem Upper u
      → LiesAboveLower grid problem u
  above-lower steady problem is other v t certificate room fixed j lt = lower-below grid steady problem other u v t is
      certificate room fixed j lt

  pub below-upper : IsSteady grid → (problem : Problem) → IsCertificate grid problem Lower u
      → LiesBelowUpper grid problem u
  below-upper steady problem is other v t certificate room fixed j lt = lower-below grid steady other problem v u t
      certificate is room fixed j lt
