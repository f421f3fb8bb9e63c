-- Where no instant of the clock lies in the seconds of a start, the outermost grids are the same at each of them.
use Rattle.std.proofs.Common.{◌≡◌, ℕ, ◌+◌, ◌-◌, ◌*◌, ◌/◌, ◌%◌, ◌<◌, ◌≤◌, ℤ, pos, ◌*ℤ◌, ◌^◌, sym, ap, subst, ◌∙◌, arith}
use Rattle.std.proofs.Common.{List, length, map, inl, inr}
use Rattle.std.specs.Prelude.{slice_index_or}
use Rattle.std.specs.Option.{option_map_or, option_or}
use Rattle.std.specs.List.{AllZip}
use Rattle.std.proofs.lemmas.Nat.{div-add-mod'}
use Rattle.std.proofs.lemmas.Bool.{cases_lt}
use Rattle.std.proofs.Math.Nat.{mul-le-mul_right, mod-lt, mul-mod_left}
use Rattle.hyd_net.specs.Sound.{IsSound}
use Rattle.hyd_spec.specs.ProgramTypes.{Project, Junction, Reservoir, Demand, LinkState}
use Rattle.hyd_spec.specs.declared.TankState.{TankState}
use Rattle.hyd_spec.specs.Lists.{map_from, total}
use Rattle.hyd_spec.specs.WholeNumbers.{cut}
use Rattle.hyd_spec.specs.DemandsHeadsAndPumpLifts.{multipliers_of, demand_of, reservoir_head}
use Rattle.hyd_spec_certificates.specs.declared.Side.{Side}
use Rattle.hyd_spec_certificates.specs.Interval.{Interval, shifted}
use Rattle.hyd_spec_certificates.specs.PeriodNetwork.{Grid, end_on}
use Rattle.hyd_spec_open_ends.specs.InstantsOfClock.{pattern, HasNoInstant}
use Rattle.hyd_spec_spread.specs.Spreads.{Spread, demand_factors, emitter_factors, head_offsets}
use Rattle.hyd_spec_spread.specs.IntervalsOfData.{KnownJunction, products, known_junctions, known_heads}
use Rattle.hyd_spec_spread.specs.OutermostGrids.{IsOutermostGrid, IsOutermostJunction}

-- two numbers between which there is no multiple have the same quotient
same-quotient : (a b r : ℕ) → 0 < r → a ≤ b → ((m : ℕ) → a ≤ m → m ≤ b → m % r ≡ 0 → ⊥) → a / r ≡ b / r
same-quotient a b r some le none =
    let p = div-add-mod' a r in let q = div-add-mod' b r in
    let c : a % r < r = mod-lt a some in let d : b % r < r = mod-lt b some in
    elim (cases_lt (a / r) (b / r)) [
      | inl less ↦ absurd (
          let more : (a / r) + 1 ≤ b / r = omega (arith, less) in
          let e : ((a / r) + 1) * r ≤ (b / r) * r = mul-le-mul_right r more in
          none ((b / r) * r) (omega (arith, p, c, e)) (omega (arith, q)) (mul-mod_left (b / r) r))
      | inr ge ↦ elim (cases_lt (b / r) (a / r)) [
        | inl less ↦ absurd (
            let more : (b / r) + 1 ≤ a / r = omega (arith, less) in
            let e : ((b / r) + 1) * r ≤ (a / r) * r = mul-le-mul_right r more in
            omega (arith, p, q, d, e, le))
        | inr le' ↦ omega (arith, ge, le')
      ]
    ]

-- the demand of a junction, by the step of the patterns
abbrev demand-in-step : Project → Junction → ℕ → ℤ
demand-in-step project junction step =
    total (map (λ (category : Demand).
    cut (category.base *ℤ cut (option_map_or (λ (p : ℕ).
    slice_index_or (multipliers_of project p) (step % length (multipliers_of project p)) (pos 0))
    (option_or category.pattern project.options.default_pattern) (pos (10 ^ 9))
    *ℤ project.options.multiplier.nano) (10 ^ 9)) (10 ^ 9)) junction.demands.list)

-- the head of a reservoir, by it
abbrev head-in-step : Project → Reservoir → ℕ → ℤ
head-in-step project reservoir step =
    option_map_or (λ (p : ℕ). cut (reservoir.head
    *ℤ slice_index_or (multipliers_of project p) (step % length (multipliers_of project p)) (pos 0)) (10 ^ 9))
    reservoir.pattern reservoir.head

module _ (project : Project) (sound : IsSound project) (spread : Spread) (first time : ℕ) (from : first ≤ time)
    (none : HasNoInstant project first time) where
  same-step : (first + project.times.pattern_start) / project.times.pattern
      ≡ (time + project.times.pattern_start) / project.times.pattern
  same-step = same-quotient (first + project.times.pattern_start) (time + project.times.pattern_start)
      project.times.pattern
      (let a = sound.times.hydraulic in let b = sound.times.within_pattern in omega (arith, a, b))
      (omega (arith, from))
      (λ m least most e. none (m - project.times.pattern_start) (omega (arith, least)) (omega (arith, most))
      (pattern (let n : (m - project.times.pattern_start) + project.times.pattern_start ≡ m = omega (arith, least) in
      subst (λ k. k % project.times.pattern ≡ 0) (sym n) e)))

  same-demand : (junction : Junction) → demand_of project first junction ≡ demand_of project time junction
  same-demand junction = ap (demand-in-step project junction) same-step

  same-head : (reservoir : Reservoir) → reservoir_head project first reservoir ≡ reservoir_head project time reservoir
  same-head reservoir = ap (head-in-step project reservoir) same-step

  same-junctions : known_junctions project spread first ≡ known_junctions project spread time
  same-junctions = λ i. map_from (λ j (junction : Junction). record {
    elevation = junction.elevation;
    demand = products (demand_factors spread j) (same-demand junction i);
    emitter = junction.emitter;
    factors = emitter_factors spread j;
  }) 0 project.junctions.list

  same-heads : known_heads project spread first ≡ known_heads project spread time
  same-heads = λ i. map_from (λ r (reservoir : Reservoir). shifted (same-head reservoir i) (head_offsets spread r)) 0
      project.reservoirs.list

  -- the outermost grid of the first second is that of each
  pub same-outermost : (side : Side) (levels : List Interval) (tanks : List TankState) (links : List LinkState)
      (grid : Grid) → IsOutermostGrid project spread side first levels tanks links grid
      → IsOutermostGrid project spread side time levels tanks links grid
  same-outermost side levels tanks links grid is = record {
    junctions = subst (λ (known : List KnownJunction). AllZip (IsOutermostJunction project side) known grid.junctions)
        same-junctions is.junctions;
    reservoirs = is.reservoirs ∙ ap (map (end_on side)) same-heads;
    tank_heads = is.tank_heads;
    links_are = is.links_are;
  }
