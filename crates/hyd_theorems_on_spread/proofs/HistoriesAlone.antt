-- Without a spread the histories within are those of the network.
use Rattle.std.proofs.Common.{◌≡◌, ℕ, suc, ◌+◌, ◌^◌, ◌≤◌, ℤ, ◌≤ℤ◌, refl, sym, ap, subst, ◌∙◌, arith, List}
use Rattle.std.proofs.Common.{[], ◌∷◌}
use Rattle.std.specs.Prelude.{Option, Some, None, map, unsigned_abs}
use Rattle.std.specs.List.{AllZip, AllByRecursion}
use Rattle.std.specs.Option.{IfSome}
use Rattle.std.specs.Coded.{le_prop}
use Rattle.std.proofs.lemmas.Int.{ints}
use Rattle.hyd_num.specs.CapacityPairs.{IsMade}
use Rattle.hyd_net.specs.NetworkRanges.{IsEmitter}
use Rattle.hyd_net.specs.Sound.{IsSound}
use Rattle.hyd_spec.specs.ProgramTypes.{Project, Junction, Reservoir, Tank, Capacity, Decimal, Emitter}
use Rattle.hyd_spec.specs.Lists.{map_from}
use Rattle.hyd_spec.specs.Scale.{at_scale}
use Rattle.hyd_spec.specs.DemandsHeadsAndPumpLifts.{demand_of, reservoir_head}
use Rattle.hyd_spec.specs.PumpPatternsAndSimpleControls.{started, acts_at}
use Rattle.hyd_spec.specs.PeriodLength.{Period}
use Rattle.hyd_spec.specs.History.{Begins, IsHistory, GoesOn, ComesAfter, tank_states, initial_links}
use Rattle.hyd_spec.specs.History.{initial_levels, initial_volumes}
use Rattle.hyd_spec.specs.Tank.{walls_of, kept_volume}
use Rattle.hyd_spec_certificates.specs.Interval.{Interval}
use Rattle.hyd_lemmas.proofs.OneCapacity.{same-capacity}
use Rattle.hyd_spec_spread.specs.Spreads.{no_spread, one_alone}
use Rattle.hyd_spec_spread.specs.IntervalsOfData.{known_junction, known_head}
use Rattle.hyd_spec_spread.specs.NetworksWithin.{NodeData, with_data, coefficient_of, EmitterIsWithin}
use Rattle.hyd_spec_spread.specs.NetworksWithin.{IsJunctionWithin, HasHeadWithin, IsWithin}
use Rattle.hyd_spec_spread.specs.HistoriesWithin.{HoldsParts, BeginsWithin, ComesAfterWith, GoesOnWithin}
use Rattle.hyd_spec_spread.specs.HistoriesWithin.{IsHistoryWithin}
use Rattle.hyd_theorems_on_spread.proofs.OutermostJunctions.{emitters-in-order, one-unit}
use Rattle.hyd_theorems_on_spread.proofs.LinksWithin.{count-within}
use Rattle.hyd_theorems_on_spread.proofs.ProductsInOrder.{products-least, products-greatest}
use Rattle.hyd_theorems_on_spread.proofs.OwnNetwork.{own-emitter, HasOwnEmitter, own-emitters, same-ends}
use Rattle.hyd_theorems_on_spread.proofs.PeriodsAlike.{IsSameJunction, AreAlike, period-alike, commands-alike}

same-decimal : (a b : Decimal) → a.nano ≡ b.nano → a ≡ b
same-decimal a b e =
    let ByNano : ℤ → Type 0 = λ n. (p : unsigned_abs n ≤ 10 ^ 21) → a ≡ record { nano = n; bounded = p } in
    let own : ByNano a.nano = λ p i. record { nano = a.nano; bounded = le_prop a.bounded p i } in
    subst ByNano e own b.bounded

module _ (project : Project) (sound : IsSound project) where
  -- ---- the file's data

  emitter-alone : (own other : Option Capacity) → IfSome own (λ c. IsEmitter project.options.unit c.origin)
      → IfSome own IsMade → EmitterIsWithin one_alone own other → other ≡ own
  emitter-alone None None ranged made w = refl
  emitter-alone None (Some b) ranged made w = absurd w
  emitter-alone (Some own) None ranged made w = absurd w
  emitter-alone (Some own) (Some other) ranged made w =
      let itself = own-emitter project.options.unit own ranged made in
      let least = products-least (coefficient_of own.origin) in
      let greatest = products-greatest (coefficient_of own.origin) in
      let low = w.within.low in
      let high = w.within.high in
      let nano : w.nano ≡ coefficient_of own.origin = omega (arith, ints, least, greatest, low, high) in
      let ends = same-ends project sound other own
      (emitters-in-order own.origin w.nano (coefficient_of own.origin) other own w.is_emitter itself
      (omega (arith, ints, nano)))
      (emitters-in-order own.origin (coefficient_of own.origin) w.nano own other itself w.is_emitter
      (omega (arith, ints, nano))) in
      let unit = one-unit own.origin w.is_emitter.own_coefficient itself.coefficient w.is_emitter.unit itself.unit
      w.is_emitter.own_is itself.origin in
      let number = same-decimal w.is_emitter.coefficient itself.coefficient
      (w.is_emitter.nano_is ∙ nano ∙ sym itself.nano_is) in
      let origin : other.origin ≡ own.origin =
      w.is_emitter.origin ∙ (λ i. Emitter (number i) (unit i)) ∙ sym itself.origin in
      ap Some (same-capacity other own ends.0 ends.1 origin)

  junctions-alone : (nodes : NodeData) (time from : ℕ) (js ks : List Junction)
      → AllByRecursion (HasOwnEmitter project sound) js
      → AllZip (IsJunctionWithin (with_data project nodes) time)
      (map_from (known_junction project no_spread time) from js) ks
      → AllZip (IsSameJunction project nodes time) js ks
  junctions-alone nodes time from [] [] own all = tt
  junctions-alone nodes time from [] (k ∷ ks) own all = absurd all
  junctions-alone nodes time from (j ∷ js) [] own all = absurd all
  junctions-alone nodes time from (j ∷ js) (k ∷ ks) own all = (
    record {
      elevation = all.0.elevation;
      demand =
          let low = all.0.demand.low in
          let high = all.0.demand.high in
          let least = products-least (demand_of project time j) in
          let greatest = products-greatest (demand_of project time j) in
          omega (arith, ints, low, high, least, greatest);
      emitter = emitter-alone j.emitter k.emitter own.0.ranged.emitter own.0.made all.0.emitter;
    },
    junctions-alone nodes time (suc from) js ks own.1 all.1,
  )

  heads-alone : (nodes : NodeData) (time from : ℕ) (rs ss : List Reservoir)
      → AllZip (HasHeadWithin (with_data project nodes) time) (map_from (known_head project no_spread time) from rs) ss
      → map (reservoir_head (with_data project nodes) time) ss ≡ map (reservoir_head project time) rs
  heads-alone nodes time from [] [] all = refl
  heads-alone nodes time from [] (s ∷ ss) all = absurd all
  heads-alone nodes time from (r ∷ rs) [] all = absurd all
  heads-alone nodes time from (r ∷ rs) (s ∷ ss) all =
      let low = all.0.low in
      let high = all.0.high in
      let here : reservoir_head (with_data project nodes) time s ≡ reservoir_head project time r =
      omega (arith, ints, low, high) in
      let rest = heads-alone nodes time (suc from) rs ss all.1 in
      λ i. here i ∷ rest i

  alike : (nodes : NodeData) (time : ℕ) → IsWithin project no_spread time nodes → AreAlike project nodes time
  alike nodes time w = record {
    junctions = junctions-alone nodes time 0 project.junctions.list nodes.junctions.list (own-emitters project sound)
        w.junctions;
    numbers = count-within project no_spread time nodes w;
    heads = heads-alone nodes time 0 project.reservoirs.list nodes.reservoirs.list w.reservoirs;
  }

  -- ---- the start

  exact-stocks : (S : ℕ) (f : Tank → ℤ) (known : ℕ → Tank → Interval)
      → ((k : ℕ) (tank : Tank) → (known k tank).lo ≡ f tank) → ((k : ℕ) (tank : Tank) → (known k tank).hi ≡ f tank)
      → (from : ℕ) (tanks : List Tank) (zs : List ℤ) → AllZip (HoldsParts S) (map_from known from tanks) zs
      → zs ≡ map (λ (tank : Tank). at_scale S (f tank)) tanks
  exact-stocks S f known lo hi from [] [] all = refl
  exact-stocks S f known lo hi from [] (z ∷ zs) all = absurd all
  exact-stocks S f known lo hi from (tank ∷ tanks) [] all = absurd all
  exact-stocks S f known lo hi from (tank ∷ tanks) (z ∷ zs) all =
      let low = subst (λ (x : ℤ). at_scale S x ≤ℤ z) (lo from tank) all.0.low in
      let high = subst (λ (x : ℤ). z ≤ℤ at_scale S x) (hi from tank) all.0.high in
      let here : z ≡ at_scale S (f tank) = omega (arith, ints, low, high) in
      let rest = exact-stocks S f known lo hi (suc from) tanks zs all.1 in
      λ i. here i ∷ rest i

  begins-alone : (S : ℕ) (first : Period) → BeginsWithin project no_spread S first
      → Begins project S 0 (initial_levels project S) (initial_volumes project S) (initial_links project) first
  begins-alone S first b =
      let levels : first.levels ≡ initial_levels project S =
      exact-stocks S (λ tank. tank.initial) _ (λ k tank. refl) (λ k tank. refl) 0 project.tanks.list first.levels
      b.levels in
      let volumes : first.volumes ≡ initial_volumes project S =
      exact-stocks S (λ tank. kept_volume (walls_of project tank) tank.initial) _ (λ k tank. refl)
      (λ k tank. refl) 0 project.tanks.list first.volumes b.volumes in
      record {
        at_time = b.begins.at_time;
        at_levels = levels;
        at_volumes = volumes;
        tanks = subst (λ (zs : List ℤ). first.tanks ≡ tank_states S project.tanks.list zs) levels b.begins.tanks;
        links = subst (λ (zs : List ℤ). first.links ≡ started project 0 (acts_at S zs) (initial_links project)) levels
            b.begins.links;
      }

  -- ---- on

  comes-alone : (S : ℕ) (nodes : NodeData) (before period : Period) → IsWithin project no_spread before.time nodes
      → ComesAfterWith project S nodes before period → ComesAfter project S before period
  comes-alone S nodes before period w comes =
      let commands = commands-alike project nodes before.time (alike nodes before.time w) S before refl in
      record {
        not_last = comes.not_last;
        stocks = comes.stocks;
        begins = record {
          at_time = comes.begins.at_time;
          at_levels = comes.begins.at_levels;
          at_volumes = comes.begins.at_volumes;
          tanks = comes.begins.tanks;
          links = comes.begins.links ∙ ap (started project (before.time + before.length) (acts_at S period.levels))
              commands;
        };
      }

  on-alone : (S : ℕ) (nodes : NodeData) (before : Period) → IsWithin project no_spread before.time nodes
      → (rest : List Period) → GoesOnWithin project no_spread S nodes before rest → GoesOn project S before rest
  on-alone S nodes before w [] goes = tt
  on-alone S nodes before w (period ∷ rest) goes =
      let next = goes.1.1.0 in (
        comes-alone S nodes before period w goes.0,
        (
          period-alike project goes.1.0 period.time (alike goes.1.0 period.time next.within) S period refl
              next.is_period,
          on-alone S goes.1.0 period next.within rest goes.1.1.1,
        ),
      )

  pub history-alone : (S : ℕ) (periods : List Period) → IsHistoryWithin project no_spread S periods
      → IsHistory project S periods
  history-alone S [] history = tt
  history-alone S (first ∷ rest) history =
      let one = history.1.1.0 in (
        begins-alone S first history.0,
        (
          period-alike project history.1.0 first.time (alike history.1.0 first.time one.within) S first refl
              one.is_period,
          on-alone S history.1.0 first one.within rest history.1.1.1,
        ),
      )
