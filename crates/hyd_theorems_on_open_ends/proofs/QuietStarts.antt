-- Where no instant of the clock lies in the seconds of a start, demands, heads of reservoirs and the states of links
-- are the same at each of them.
use Rattle.std.proofs.Common.{◌≡◌, ℕ, ◌+◌, ◌-◌, ◌*◌, ◌/◌, ◌%◌, ◌<◌, ◌≤◌, ℤ, pos, ◌*ℤ◌, ◌^◌, refl, sym, ap}
use Rattle.std.proofs.Common.{subst}
use Rattle.std.proofs.Common.{◌∙◌, arith, Bool, true, false, ◌||◌, ◌==◌, List, [], ◌∷◌, length, map, inl, inr}
use Rattle.std.specs.Prelude.{slice_index_or, slice_set, fold, Contains, if◌then◌else◌}
use Rattle.std.specs.Option.{option_map_or, option_or}
use Rattle.std.specs.List.{AllZip}
use Rattle.std.proofs.lemmas.Nat.{div-add-mod'}
use Rattle.std.proofs.lemmas.Bool.{cases_Bool, cases_lt, eqb-true}
use Rattle.std.proofs.Math.Nat.{mul-le-mul_right, mod-lt, mul-mod_left}
use Rattle.hyd_net.specs.Sound.{IsSound}
use Rattle.hyd_spec.specs.ProgramTypes.{Project, Junction, Reservoir, Demand, Control, When, AtLevel, AtTime, AtClock}
use Rattle.hyd_spec.specs.ProgramTypes.{LinkState}
use Rattle.hyd_spec.specs.declared.TankState.{TankState}
use Rattle.hyd_spec.specs.Lists.{total}
use Rattle.hyd_spec.specs.WholeNumbers.{cut}
use Rattle.hyd_spec.specs.DemandsHeadsAndPumpLifts.{multipliers_of, demand_of, reservoir_head}
use Rattle.hyd_spec.specs.PumpPatternsAndSimpleControls.{clock_at, is_pattern_boundary, after_patterns, patterned}
use Rattle.hyd_spec.specs.PumpPatternsAndSimpleControls.{control_acts, started}
use Rattle.hyd_spec_certificates.specs.Interval.{Interval}
use Rattle.hyd_spec_certificates.specs.PeriodNetwork.{Grid, GridJunction, IsJunctionOf, IsDemandLaw, IsGrid}
use Rattle.hyd_spec_certificates.specs.RecordAndStanding.{Standing}
use Rattle.hyd_spec_certificates.specs.Decided.{acts_on, links_at}
use Rattle.hyd_spec_open_ends.specs.InstantsOfClock.{IsInstant, pattern, control_time, control_clock, HasNoInstant}
use Rattle.hyd_theorems_on_histories.proofs.WatchedLevels.{contains-here, contains-later}
use Rattle.hyd_theorems_on_open_ends.specs.AgreementOverStarts.{begun_at}

-- ---- steps of the patterns

-- two numbers between which there is no multiple have the same quotient
same-quotient : (a b r : ℕ) → 0 < r → a ≤ b → ((m : ℕ) → a ≤ m → m ≤ b → m % r ≡ 0 → ⊥) → a / r ≡ b / r
same-quotient a b r some le none =
    let p = div-add-mod' a r in let q = div-add-mod' b r in
    let c : a % r < r = mod-lt a some in let d : b % r < r = mod-lt b some in
    elim (cases_lt (a / r) (b / r)) [
      | inl less ↦ absurd (
          let more : (a / r) + 1 ≤ b / r = omega (arith, less) in
          let e : ((a / r) + 1) * r ≤ (b / r) * r = mul-le-mul_right r more in
          none ((b / r) * r) (omega (arith, p, c, e)) (omega (arith, q)) (mul-mod_left (b / r) r))
      | inr ge ↦ elim (cases_lt (b / r) (a / r)) [
        | inl less ↦ absurd (
            let more : (b / r) + 1 ≤ a / r = omega (arith, less) in
            let e : ((b / r) + 1) * r ≤ (a / r) * r = mul-le-mul_right r more in
            omega (arith, p, q, d, e, le))
        | inr le' ↦ omega (arith, ge, le')
      ]
    ]

-- the demand of a junction, by the step of the patterns
abbrev demand-in-step : Project → Junction → ℕ → ℤ
demand-in-step project junction step =
    total (map (λ (category : Demand).
    cut (category.base *ℤ cut (option_map_or (λ (p : ℕ).
    slice_index_or (multipliers_of project p) (step % length (multipliers_of project p)) (pos 0))
    (option_or category.pattern project.options.default_pattern) (pos (10 ^ 9))
    *ℤ project.options.multiplier.nano) (10 ^ 9)) (10 ^ 9)) junction.demands.list)

-- the heads of reservoirs, by it
abbrev heads-in-step : Project → ℕ → List ℤ
heads-in-step project step =
    map (λ (reservoir : Reservoir). option_map_or (λ (p : ℕ). cut (reservoir.head
    *ℤ slice_index_or (multipliers_of project p) (step % length (multipliers_of project p)) (pos 0)) (10 ^ 9))
    reservoir.pattern reservoir.head) project.reservoirs.list

module _ (project : Project) (sound : IsSound project) (first time : ℕ) (from : first ≤ time)
    (none : HasNoInstant project first time) where
  same-step : (first + project.times.pattern_start) / project.times.pattern
      ≡ (time + project.times.pattern_start) / project.times.pattern
  same-step = same-quotient (first + project.times.pattern_start) (time + project.times.pattern_start)
      project.times.pattern
      (let a = sound.times.hydraulic in let b = sound.times.within_pattern in omega (arith, a, b))
      (omega (arith, from))
      (λ m least most e. none (m - project.times.pattern_start) (omega (arith, least)) (omega (arith, most))
      (pattern (let n : (m - project.times.pattern_start) + project.times.pattern_start ≡ m = omega (arith, least) in
      subst (λ k. k % project.times.pattern ≡ 0) (sym n) e)))

  same-demand : (junction : Junction) → demand_of project first junction ≡ demand_of project time junction
  same-demand junction = ap (demand-in-step project junction) same-step

  same-heads : map (reservoir_head project first) project.reservoirs.list
      ≡ map (reservoir_head project time) project.reservoirs.list
  same-heads = ap (heads-in-step project) same-step

  junctions-there : (junctions : List Junction) (here : List GridJunction)
      → AllZip (IsJunctionOf project first) junctions here
      → AllZip (IsJunctionOf project time) junctions here
  junctions-there [] [] all = tt
  junctions-there [] (g ∷ here) all = absurd all
  junctions-there (j ∷ junctions) [] all = absurd all
  junctions-there (j ∷ junctions) (g ∷ here) all = (
    record {
      elevation = all.0.elevation;
      demand = subst (λ (z : ℤ). IsDemandLaw project z g.demand) (same-demand j) all.0.demand;
      emitter = all.0.emitter;
    },
    junctions-there junctions here all.1,
  )

  -- the grid of the first second is that of each
  pub same_grid : (levels : List Interval) (tanks : List TankState) (links : List LinkState) (grid : Grid)
      → IsGrid project first levels tanks links grid → IsGrid project time levels tanks links grid
  same_grid levels tanks links grid is = record {
    junctions = junctions-there project.junctions.list grid.junctions is.junctions;
    reservoirs = is.reservoirs ∙ same-heads;
    tank_heads = is.tank_heads;
    links_are = is.links_are;
  }

-- ---- states of links

apart : (a b : ℕ) → (a ≡ b → ⊥) → (a == b) ≡ false
apart a b other = elim (cases_Bool (a == b)) [ inl held ↦ absurd (other (eqb-true a b held)) | inr fails ↦ fails ]

neither : (a b : Bool) → a ≡ false → b ≡ false → (a || b) ≡ false
neither true b e f = absurd (cc)
neither false b e f = f

otherwise : (b : Bool) (xs ys : List LinkState) → b ≡ false → (if b then xs else ys) ≡ ys
otherwise true xs ys e = absurd (cc)
otherwise false xs ys e = refl

-- at a second that is no instant pumps keep their speeds
no-boundary : (project : Project) (time : ℕ) (states : List LinkState) → 0 < time → (IsInstant project time → ⊥)
    → patterned project time states ≡ states
no-boundary project time states some none =
    otherwise (is_pattern_boundary project time) (after_patterns project time project.links.list states) states
    (neither (time == 0) ((time + project.times.pattern_start) % project.times.pattern == 0)
    (apart time 0 (λ e. omega (arith, some, e)))
    (apart ((time + project.times.pattern_start) % project.times.pattern) 0 (λ e. none (pattern e))))

-- and no control acts by time or clock
abbrev by-level : (ℕ → Bool → ℤ → Bool) → When → Bool
by-level acts (AtLevel tank above ticks) = acts tank above ticks
by-level acts when = false

only-levels : (project : Project) (time : ℕ) (acts : ℕ → Bool → ℤ → Bool) (each : Control)
    → Contains project.controls.list each
    → (IsInstant project time → ⊥) → control_acts project time acts each.when ≡ by-level acts each.when
only-levels project time acts each contained none = by-when each.when refl
  where
    by-when : (w : When) → each.when ≡ w → control_acts project time acts w ≡ by-level acts w
    by-when (AtLevel tank above ticks) is = refl
    by-when (AtTime at) is = apart at time (λ e. none (control_time each contained (is ∙ ap AtTime e)))
    by-when (AtClock at) is = apart at (clock_at project time) (λ e. none (control_clock each at contained is (sym e)))

abbrev carry : (When → Bool) → List LinkState → Control → List LinkState
carry acts links control = if acts control.when then slice_set links control.link control.to else links

same-fold : (acts others : When → Bool) (controls : List Control)
    → ((each : Control) → Contains controls each → acts each.when ≡ others each.when)
    → (links : List LinkState) → fold (carry acts) links controls ≡ fold (carry others) links controls
same-fold acts others [] same links = refl
same-fold acts others (c ∷ controls) same links =
    let first = same c (contains-here Control c controls) in
    (λ i. fold (carry acts) (if first i then slice_set links c.link c.to else links) controls)
    ∙ same-fold acts others controls
    (λ each contained. same each (contains-later Control each c controls contained))
    (carry others links c)

level-controls-alone : (project : Project) (time : ℕ) (acts : ℕ → Bool → ℤ → Bool) (states : List LinkState)
    → 0 < time → (IsInstant project time → ⊥)
    → started project time acts states ≡ fold (carry (by-level acts)) states project.controls.list
level-controls-alone project time acts states some none =
    ap (λ links. fold (carry (control_acts project time acts)) links project.controls.list)
    (no-boundary project time states some none)
    ∙ same-fold (control_acts project time acts) (by-level acts) project.controls.list
    (λ each contained. only-levels project time acts each contained none) states

-- the links of the first second of a quiet start are in the states of each
pub same_start : (project : Project) (standing : Standing) (time : ℕ) → 0 < standing.time → standing.time ≤ time
    → HasNoInstant project standing.time time
    → links_at project (begun_at standing time) ≡ links_at project standing
same_start project standing time some from none =
    level-controls-alone project time (acts_on standing.levels) standing.commanded (omega (arith, some, from))
    (λ is. none time from (omega arith) is)
    ∙ sym (level-controls-alone project standing.time (acts_on standing.levels) standing.commanded some
    (λ is. none standing.time (omega arith) from is))
