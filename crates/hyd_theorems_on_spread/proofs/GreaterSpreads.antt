-- A history within a spread is one within each greater spread, and each history of the file's own network is one within
-- each spread of it.
use Rattle.std.proofs.Common.{◌≡◌, ℕ, suc, ◌+◌, ◌<◌, ℤ, pos, ◌≤ℤ◌, ◌<ℤ◌, refl, sym, subst, arith}
use Rattle.std.proofs.Common.{List, [], ◌∷◌, length, get_or}
use Rattle.std.specs.Prelude.{Option, Some, None, slice_get, map}
use Rattle.std.specs.List.{AllZip}
use Rattle.std.proofs.lemmas.Int.{ints}
use Rattle.std.proofs.lemmas.List.{get_or-map, length-map}
use Rattle.hyd_num.proofs.Integers.{times_rises}
use Rattle.hyd_net.specs.Curves.{Knot, AreRising, volume_knots}
use Rattle.hyd_net.specs.Sound.{IsSound}
use Rattle.hyd_spec.specs.ProgramTypes.{Project, Junction, Reservoir, Tank, VolumePoint, Capacity}
use Rattle.hyd_spec.specs.Lists.{map_from}
use Rattle.hyd_spec.specs.Scale.{at_scale}
use Rattle.hyd_spec.specs.DemandsHeadsAndPumpLifts.{demand_of, reservoir_head}
use Rattle.hyd_spec.specs.Tank.{Walls, Cylinder, Curve, walls_of, kept_volume}
use Rattle.hyd_spec.specs.PeriodLength.{Period}
use Rattle.hyd_spec.specs.PumpPatternsAndSimpleControls.{started, acts_at}
use Rattle.hyd_spec.specs.History.{IsHistory, GoesOn, Begins, tank_states, initial_levels, initial_volumes}
use Rattle.hyd_spec.specs.History.{initial_links}
use Rattle.hyd_spec_certificates.specs.Interval.{Interval, exactly}
use Rattle.hyd_spec_spread.specs.Spreads.{Factors, Spread, IsSpread, IsInside, Holds, IsNarrower, AreAmong}
use Rattle.hyd_spec_spread.specs.Spreads.{level_interval, demand_factors, emitter_factors}
use Rattle.hyd_spec_spread.specs.IntervalsOfData.{products, known_junction, known_head}
use Rattle.hyd_spec_spread.specs.IntervalsOfData.{known_volume}
use Rattle.hyd_spec_spread.specs.NetworksWithin.{NodeData, with_data, own_data, coefficient_of}
use Rattle.hyd_spec_spread.specs.NetworksWithin.{EmitterIsWithin, IsJunctionWithin, HasHeadWithin, IsWithin}
use Rattle.hyd_spec_spread.specs.HistoriesWithin.{HoldsParts, BeginsWithin, IsPeriodWithin, GoesOnWithin}
use Rattle.hyd_spec_spread.specs.HistoriesWithin.{IsHistoryWithin}
use Rattle.hyd_theorems_on_definitions.specs.SoundLawsAndGrids.{AreInOrder}
use Rattle.hyd_theorems_on_definitions.specs.SoundTanks.{HoldWater}
use Rattle.hyd_theorems_on_definitions.proofs.EachLaw.{IsLaw-bent}
use Rattle.hyd_theorems_on_definitions.proofs.SoundTankLemmas.{vessels}
use Rattle.hyd_theorems_on_spread.proofs.ProductsInOrder.{products-inside}
use Rattle.hyd_theorems_on_spread.proofs.OwnNetwork.{own-within}

-- ---- a greater spread holds each network that a lesser one does

wider : (inner outer : Interval) (z : ℤ) → IsNarrower inner outer → Holds inner z → Holds outer z
wider inner outer z less held = record {
  low = (let a = less.low in let b = held.low in omega (arith, ints, a, b));
  high = (let a = less.high in let b = held.high in omega (arith, ints, a, b));
}

emitter-wider : (inner outer : Factors) (own other : Option Capacity) → AreAmong inner outer
    → EmitterIsWithin inner own other → EmitterIsWithin outer own other
emitter-wider inner outer None None among w = tt
emitter-wider inner outer None (Some b) among w = absurd w
emitter-wider inner outer (Some own) None among w = absurd w
emitter-wider inner outer (Some own) (Some b) among w = record {
  nano = w.nano;
  within = wider (products inner (coefficient_of own.origin)) (products outer (coefficient_of own.origin)) w.nano
      (products-inside inner outer among (coefficient_of own.origin)) w.within;
  is_emitter = w.is_emitter;
}

module _ (project : Project) (inner outer : Spread) (inside : IsInside project inner outer) where
  junctions-wider : (nodes : NodeData) (time from : ℕ) (js ks : List Junction)
      → AllZip (IsJunctionWithin (with_data project nodes) time) (map_from (known_junction project inner time) from js)
      ks
      → AllZip (IsJunctionWithin (with_data project nodes) time) (map_from (known_junction project outer time) from js)
      ks
  junctions-wider nodes time from [] [] all = tt
  junctions-wider nodes time from [] (k ∷ ks) all = absurd all
  junctions-wider nodes time from (j ∷ js) [] all = absurd all
  junctions-wider nodes time from (j ∷ js) (k ∷ ks) all = (
    record {
      elevation = all.0.elevation;
      demand = wider (products (demand_factors inner from) (demand_of project time j))
          (products (demand_factors outer from) (demand_of project time j)) (demand_of (with_data project nodes) time k)
          (products-inside (demand_factors inner from) (demand_factors outer from) (inside.demands from)
          (demand_of project time j)) all.0.demand;
      emitter = emitter-wider (emitter_factors inner from) (emitter_factors outer from) j.emitter k.emitter
          (inside.emitters from) all.0.emitter;
    },
    junctions-wider nodes time (suc from) js ks all.1,
  )

  heads-wider : (nodes : NodeData) (time from : ℕ) (rs ss : List Reservoir)
      → AllZip (HasHeadWithin (with_data project nodes) time) (map_from (known_head project inner time) from rs) ss
      → AllZip (HasHeadWithin (with_data project nodes) time) (map_from (known_head project outer time) from rs) ss
  heads-wider nodes time from [] [] all = tt
  heads-wider nodes time from [] (s ∷ ss) all = absurd all
  heads-wider nodes time from (r ∷ rs) [] all = absurd all
  heads-wider nodes time from (r ∷ rs) (s ∷ ss) all = (
    wider (known_head project inner time from r) (known_head project outer time from r)
        (reservoir_head (with_data project nodes) time s)
        (record {
          low = (let a = (inside.heads from).low in omega (arith, ints, a));
          high = (let a = (inside.heads from).high in omega (arith, ints, a));
        }) all.0,
    heads-wider nodes time (suc from) rs ss all.1,
  )

  pub within-wider : (time : ℕ) (nodes : NodeData) → IsWithin project inner time nodes
      → IsWithin project outer time nodes
  within-wider time nodes w = record {
    junctions = junctions-wider nodes time 0 project.junctions.list nodes.junctions.list w.junctions;
    reservoirs = heads-wider nodes time 0 project.reservoirs.list nodes.reservoirs.list w.reservoirs;
  }

-- ---- levels and volumes at the start

parts-wider : (S : ℕ) (inner outer : Interval) (z : ℤ) → IsNarrower inner outer → HoldsParts S inner z
    → HoldsParts S outer z
parts-wider S inner outer z less held = record {
  low = (let a = times_rises S outer.lo inner.lo less.low in let b = held.low in omega (arith, ints, a, b));
  high = (let a = times_rises S inner.hi outer.hi less.high in let b = held.high in omega (arith, ints, a, b));
}

zip-wider : (S : ℕ) (f g : ℕ → Tank → Interval) (from : ℕ) (tanks : List Tank) (zs : List ℤ)
    → ((n k : ℕ) (tank : Tank) → n ≡ from + k → slice_get tanks k ≡ Some tank → IsNarrower (f n tank) (g n tank))
    → AllZip (HoldsParts S) (map_from f from tanks) zs → AllZip (HoldsParts S) (map_from g from tanks) zs
zip-wider S f g from [] [] less all = tt
zip-wider S f g from [] (z ∷ zs) less all = absurd all
zip-wider S f g from (tank ∷ tanks) [] less all = absurd all
zip-wider S f g from (tank ∷ tanks) (z ∷ zs) less all = (
  parts-wider S (f from tank) (g from tank) z (less from 0 tank (omega arith) refl) all.0,
  zip-wider S f g (suc from) tanks zs (λ n k other e at. less n (suc k) other (omega (arith, e)) at) all.1,
)

zip-exact : (S : ℕ) (f : Tank → ℤ) (from : ℕ) (tanks : List Tank)
    → AllZip (HoldsParts S) (map_from (λ k (tank : Tank). exactly (f tank)) from tanks)
    (map (λ (tank : Tank). at_scale S (f tank)) tanks)
zip-exact S f from [] = tt
zip-exact S f from (tank ∷ tanks) =
    (record { low = omega (arith, ints); high = omega (arith, ints) }, zip-exact S f (suc from) tanks)

-- ---- volumes rise with levels

abbrev a_point : VolumePoint
a_point = record { level = pos 0; volume = pos 0 }

points-rise : (f : VolumePoint → ℤ) (points : List VolumePoint) → AreRising (map f points) → (i j : ℕ) → i < j
    → j < length points → f (get_or points i a_point) <ℤ f (get_or points j a_point)
points-rise f points rise i j less within =
    let at_i = get_or-map f points i a_point (f a_point) (omega (arith, less, within)) in
    let at_j = get_or-map f points j a_point (f a_point) within in
    let l = rise i j (f a_point) less (rw (length-map points f) within) in
    omega (arith, ints, l, at_i, at_j)

abbrev at_level : VolumePoint → Knot
at_level p = record { place = p.level; value = p.volume }

knots-in_order : (points : List VolumePoint) → HoldWater (Curve points) → AreInOrder (volume_knots points)
knots-in_order points holds i j d less within =
    let end : j < length points = (let e = length-map points at_level in omega (arith, e, within)) in
    let levels = points-rise (λ (p : VolumePoint). p.level) points holds.0 i j less end in
    let volumes = points-rise (λ (p : VolumePoint). p.volume) points holds.1 i j less end in
    rw (
      get_or-map at_level points i a_point d (omega (arith, less, end)),
      get_or-map at_level points j a_point d end,
    ) (
      (let r : (get_or points i a_point).level ≤ℤ (get_or points j a_point).level = omega (arith, ints, levels) in r),
      (let r : (get_or points i a_point).volume ≤ℤ (get_or points j a_point).volume = omega (arith, ints, volumes) in
          r),
    )

kept-rises : (walls : Walls) → HoldWater walls → (a b : ℤ) → a ≤ℤ b → kept_volume walls a ≤ℤ kept_volume walls b
kept-rises (Cylinder area) holds a b le = omega (arith, ints)
kept-rises (Curve points) holds a b le =
    (IsLaw-bent (volume_knots points) (knots-in_order points holds)).low_rises a b le

module _ (project : Project) (sound : IsSound project) where
  rises : (k : ℕ) (tank : Tank) → slice_get project.tanks.list k ≡ Some tank → (a b : ℤ) → a ≤ℤ b
      → kept_volume (walls_of project tank) a ≤ℤ kept_volume (walls_of project tank) b
  rises k tank at a b le = kept-rises (walls_of project tank) (vessels project sound k tank at).holds_water a b le

  -- ---- histories within a greater spread

  module _ (inner outer : Spread) (inside : IsInside project inner outer) (S : ℕ) where
    levels-less : (n k : ℕ) (tank : Tank) → n ≡ 0 + k → slice_get project.tanks.list k ≡ Some tank
        → IsNarrower (level_interval inner n tank) (level_interval outer n tank)
    levels-less n k tank e at =
        let same : k ≡ n = omega (arith, e) in
        subst (λ (m : ℕ). IsNarrower (level_interval inner m tank) (level_interval outer m tank)) same
        (inside.levels k tank at)

    volumes-less : (n k : ℕ) (tank : Tank) → n ≡ 0 + k → slice_get project.tanks.list k ≡ Some tank
        → IsNarrower (known_volume project inner n tank) (known_volume project outer n tank)
    volumes-less n k tank e at =
        let l = levels-less n k tank e at in
        record {
          low = rises k tank at (level_interval outer n tank).lo (level_interval inner n tank).lo l.low;
          high = rises k tank at (level_interval inner n tank).hi (level_interval outer n tank).hi l.high;
        }

    begins-wider : (first : Period) → BeginsWithin project inner S first → BeginsWithin project outer S first
    begins-wider first b = record {
      levels = zip-wider S (level_interval inner) (level_interval outer) 0 project.tanks.list first.levels levels-less
          b.levels;
      volumes = zip-wider S (known_volume project inner) (known_volume project outer) 0 project.tanks.list
          first.volumes volumes-less b.volumes;
      begins = b.begins;
    }

    period-wider : (period : Period) (nodes : NodeData) → IsPeriodWithin project inner S period nodes
        → IsPeriodWithin project outer S period nodes
    period-wider period nodes p = record {
      within = within-wider project inner outer inside period.time nodes p.within;
      is_period = p.is_period;
    }

    on-wider : (nodes : NodeData) (before : Period) (rest : List Period)
        → GoesOnWithin project inner S nodes before rest → GoesOnWithin project outer S nodes before rest
    on-wider nodes before [] goes = tt
    on-wider nodes before (period ∷ rest) goes =
        (goes.0, (goes.1.0, (period-wider period goes.1.0 goes.1.1.0, on-wider goes.1.0 period rest goes.1.1.1)))

    pub history-wider : (periods : List Period) → IsHistoryWithin project inner S periods
        → IsHistoryWithin project outer S periods
    history-wider [] history = tt
    history-wider (first ∷ rest) history = (
      begins-wider first history.0,
      (
        history.1.0,
        (period-wider first history.1.0 history.1.1.0, on-wider history.1.0 first rest history.1.1.1),
      ),
    )

  -- ---- histories of the network itself

  module _ (spread : Spread) (is : IsSpread project spread) (S : ℕ) where
    own-levels : (n k : ℕ) (tank : Tank) → n ≡ 0 + k → slice_get project.tanks.list k ≡ Some tank
        → IsNarrower (exactly tank.initial) (level_interval spread n tank)
    own-levels n k tank e at =
        let same : k ≡ n = omega (arith, e) in
        subst (λ (m : ℕ). IsNarrower (exactly tank.initial) (level_interval spread m tank)) same
        (let own = (is.levels k tank at).own in record { low = own.low; high = own.high })

    own-volumes : (n k : ℕ) (tank : Tank) → n ≡ 0 + k → slice_get project.tanks.list k ≡ Some tank
        → IsNarrower (exactly (kept_volume (walls_of project tank) tank.initial)) (known_volume project spread n tank)
    own-volumes n k tank e at =
        let l = own-levels n k tank e at in
        record {
          low = rises k tank at (level_interval spread n tank).lo tank.initial l.low;
          high = rises k tank at tank.initial (level_interval spread n tank).hi l.high;
        }

    own-begins : (first : Period) → Begins project S 0 (initial_levels project S) (initial_volumes project S)
        (initial_links project) first → BeginsWithin project spread S first
    own-begins first b = record {
      levels = zip-wider S (λ k (tank : Tank). exactly tank.initial) (level_interval spread) 0 project.tanks.list
          first.levels own-levels (subst (λ (zs : List ℤ). AllZip (HoldsParts S)
          (map_from (λ k (tank : Tank). exactly tank.initial) 0 project.tanks.list) zs) (sym b.at_levels)
          (zip-exact S (λ tank. tank.initial) 0 project.tanks.list));
      volumes = zip-wider S (λ k (tank : Tank). exactly (kept_volume (walls_of project tank) tank.initial))
          (known_volume project spread) 0 project.tanks.list first.volumes own-volumes
          (subst (λ (zs : List ℤ). AllZip (HoldsParts S)
          (map_from (λ k (tank : Tank). exactly (kept_volume (walls_of project tank) tank.initial)) 0
          project.tanks.list) zs) (sym b.at_volumes)
          (zip-exact S (λ tank. kept_volume (walls_of project tank) tank.initial) 0 project.tanks.list));
      begins = record {
        at_time = b.at_time;
        at_levels = refl;
        at_volumes = refl;
        tanks = subst (λ (zs : List ℤ). first.tanks ≡ tank_states S project.tanks.list zs) (sym b.at_levels) b.tanks;
        links = subst (λ (zs : List ℤ). first.links ≡ started project 0 (acts_at S zs) (initial_links project))
            (sym b.at_levels) b.links;
      };
    }

    own-on : (before : Period) (rest : List Period) → GoesOn project S before rest
        → GoesOnWithin project spread S (own_data project) before rest
    own-on before [] goes = tt
    own-on before (period ∷ rest) goes = (
      record { not_last = goes.0.not_last; stocks = goes.0.stocks; begins = goes.0.begins },
      (
        own_data project,
        (
          record { within = own-within project sound spread is period.time; is_period = goes.1.0 },
          own-on period rest goes.1.1,
        ),
      ),
    )

    pub own-history : (periods : List Period) → IsHistory project S periods
        → IsHistoryWithin project spread S periods
    own-history [] history = tt
    own-history (first ∷ rest) history = (
      own-begins first history.0,
      (
        own_data project,
        (
          record { within = own-within project sound spread is first.time; is_period = history.1.0 },
          own-on first rest history.1.1,
        ),
      ),
    )
