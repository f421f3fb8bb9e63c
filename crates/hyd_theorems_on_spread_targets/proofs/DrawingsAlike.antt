-- An assignment with a draw of a network whose data at a time are the file's is one of the file's network; and without
-- a spread the data of each network within are.
use Rattle.std.proofs.Common.{◌≡◌, ℕ, suc, ◌^◌, ◌≤◌, ℤ, ◌-ℤ◌, pos, refl, sym, ap, subst, ◌∙◌, arith, Bool, true, false}
use Rattle.std.proofs.Common.{◌==◌, List, [], ◌∷◌}
use Rattle.std.specs.Prelude.{Option, Some, None, map, MatchBool, unsigned_abs}
use Rattle.std.specs.List.{AllZip, AllByRecursion}
use Rattle.std.specs.Option.{IfSome}
use Rattle.std.specs.Coded.{le_prop}
use Rattle.std.proofs.lemmas.Int.{ints}
use Rattle.hyd_num.specs.CapacityPairs.{IsMade}
use Rattle.hyd_num.specs.Rational.{is_at_most}
use Rattle.hyd_net.specs.NetworkRanges.{IsEmitter}
use Rattle.hyd_net.specs.Sound.{IsSound}
use Rattle.hyd_spec.specs.ProgramTypes.{Project, Junction, Reservoir, Link, LinkState, Capacity, Decimal, Emitter}
use Rattle.hyd_spec.specs.declared.TankState.{TankState}
use Rattle.hyd_spec.specs.Lists.{map_from}
use Rattle.hyd_spec.specs.Scale.{at_scale}
use Rattle.hyd_spec.specs.Law.{Law, Follows}
use Rattle.hyd_spec.specs.DemandsHeadsAndPumpLifts.{demand_of, reservoir_head, minimum_pressure, required_pressure}
use Rattle.hyd_spec.specs.Outflow.{IsWithinTolerance, pressure_at, is_pressure_driven, FollowsPart, FollowsPressure}
use Rattle.hyd_spec.specs.Outflow.{FollowsDemand, FollowsEmitter}
use Rattle.hyd_spec.specs.Assignment.{Assignment, LinksFollow, none, more, head_at, flow_at, where_so, node_heads}
use Rattle.hyd_spec.specs.AssignmentWithDraw.{IsAssignmentDrawing, JunctionObeysDrawing}
use Rattle.hyd_lemmas.proofs.OneCapacity.{same-capacity}
use Rattle.hyd_spec_spread.specs.Spreads.{no_spread, one_alone}
use Rattle.hyd_spec_spread.specs.IntervalsOfData.{known_junction, known_head}
use Rattle.hyd_spec_spread.specs.NetworksWithin.{NodeData, with_data, coefficient_of, EmitterIsWithin}
use Rattle.hyd_spec_spread.specs.NetworksWithin.{IsJunctionWithin, HasHeadWithin, IsWithin}
use Rattle.hyd_theorems_on_spread.proofs.OutermostJunctions.{emitters-in-order, one-unit}
use Rattle.hyd_theorems_on_spread.proofs.LinksWithin.{count-within, law-alike}
use Rattle.hyd_theorems_on_spread.proofs.ProductsInOrder.{products-least, products-greatest}
use Rattle.hyd_theorems_on_spread.proofs.OwnNetwork.{own-emitter, HasOwnEmitter, own-emitters, same-ends}
use Rattle.hyd_theorems_on_spread.proofs.PeriodsAlike.{IsSameJunction, AreAlike, heads-alike}
use Rattle.hyd_theorems_on_spread.proofs.ZippedLists.{zip-long, beside-first}

-- ---- data that are alike

module _ (project : Project) (nodes : NodeData) (time : ℕ) (alike : AreAlike project nodes time) where
  abbrev network : Project
  network = with_data project nodes

  follow-alike : (tanks : List TankState) (S : ℕ) (heads : List ℤ) (links : List Link) (states : List LinkState)
      (flows : List ℤ) → LinksFollow network tanks S heads links states flows
      → LinksFollow project tanks S heads links states flows
  follow-alike tanks S heads [] [] [] f = none
  follow-alike tanks S heads [] [] (q ∷ flows) f = elim f [ ]
  follow-alike tanks S heads [] (state ∷ states) flows f = elim f [ ]
  follow-alike tanks S heads (link ∷ links) [] flows f = elim f [ ]
  follow-alike tanks S heads (link ∷ links) (state ∷ states) [] f = elim f [ ]
  follow-alike tanks S heads (link ∷ links) (state ∷ states) (q ∷ flows) (more follows rest) =
      more (subst (λ (law : Law). Follows law S (head_at heads link.from -ℤ head_at heads link.to) q)
      (law-alike project nodes tanks link state alike.numbers) follows)
      (follow-alike tanks S heads links states flows rest)

  pressure-alike : (demand : ℤ) (S : ℕ) (p q : ℤ) → FollowsPressure network demand S p q
      → FollowsPressure project demand S p q
  pressure-alike demand S p q follows =
      by-least (is_at_most (pressure_at S p) (minimum_pressure project))
      (is_at_most (required_pressure project) (pressure_at S p)) follows
    where
      by-least : (b c : Bool) → MatchBool b (IsWithinTolerance S q (pos 0))
          (MatchBool c (IsWithinTolerance S q (at_scale S demand)) (FollowsPart network demand S p q))
          → MatchBool b (IsWithinTolerance S q (pos 0))
          (MatchBool c (IsWithinTolerance S q (at_scale S demand)) (FollowsPart project demand S p q))
      by-least true c x = x
      by-least false true x = x
      by-least false false x = record { at_least = x.at_least; at_most = x.at_most }

  demand-alike : (demand : ℤ) (S : ℕ) (p q : ℤ)
      → MatchBool (is_pressure_driven network demand) (FollowsPressure network demand S p q)
      (IsWithinTolerance S q (at_scale S demand))
      → MatchBool (is_pressure_driven project demand) (FollowsPressure project demand S p q)
      (IsWithinTolerance S q (at_scale S demand))
  demand-alike demand S p q follows = by-case (is_pressure_driven project demand) follows
    where
      by-case : (b : Bool) → MatchBool b (FollowsPressure network demand S p q)
          (IsWithinTolerance S q (at_scale S demand))
          → MatchBool b (FollowsPressure project demand S p q) (IsWithinTolerance S q (at_scale S demand))
      by-case true x = pressure-alike demand S p q x
      by-case false x = x

  junction-alike : (S : ℕ) (assignment : Assignment) (drawn : ℤ) (j : ℕ) (own other : Junction)
      → IsSameJunction project nodes time own other → JunctionObeysDrawing network time S assignment drawn j other
      → JunctionObeysDrawing project time S assignment drawn j own
  junction-alike S assignment drawn j own other one obeys = record {
    demand =
        let d = subst (λ (z : ℤ). MatchBool (is_pressure_driven network z)
        (FollowsPressure network z S (head_at assignment.heads j -ℤ at_scale S other.elevation)
        (flow_at assignment.demands j)) (IsWithinTolerance S (flow_at assignment.demands j) (at_scale S z)))
        one.demand obeys.demand in
        subst (λ (e : ℤ). FollowsDemand project time own S (head_at assignment.heads j -ℤ at_scale S e)
        (flow_at assignment.demands j)) one.elevation
        (demand-alike (demand_of project time own) S (head_at assignment.heads j -ℤ at_scale S other.elevation)
        (flow_at assignment.demands j) d);
    emitter =
        let e = subst (λ (h : ℤ). FollowsEmitter other S (head_at assignment.heads j -ℤ at_scale S h)
        (flow_at assignment.emitters j)) one.elevation obeys.emitter in
        turned S (head_at assignment.heads j -ℤ at_scale S own.elevation) (flow_at assignment.emitters j) other own
        one.emitter e;
    balance = obeys.balance;
  }
    where
      turned : (S : ℕ) (p q : ℤ) (a b : Junction) → a.emitter ≡ b.emitter → FollowsEmitter a S p q
          → FollowsEmitter b S p q
      turned S p q a b e follows =
          subst (λ (o : Option Capacity). FollowsEmitter (record b { emitter = o }) S p q) e follows

  pub drawing-alike : (S : ℕ) (levels : List ℤ) (tanks : List TankState) (links : List LinkState) (place : ℕ) (q : ℤ)
      (assignment : Assignment) → IsAssignmentDrawing network S time levels tanks links place q assignment
      → IsAssignmentDrawing project S time levels tanks links place q assignment
  drawing-alike S levels tanks links place q assignment is =
      let long = zip-long (IsSameJunction project nodes time) project.junctions.list nodes.junctions.list
      alike.junctions in
      record {
        scale = is.scale;
        level_each = is.level_each;
        tank_each = is.tank_each;
        head_each = is.head_each ∙ sym long;
        demand_each = is.demand_each ∙ sym long;
        emitter_each = is.emitter_each ∙ sym long;
        links_follow = follow-alike tanks S (node_heads project S time levels assignment.heads) project.links.list links
            assignment.flows (subst (λ (hs : List ℤ). LinksFollow network tanks S hs project.links.list links
            assignment.flows) (heads-alike project nodes time alike S levels assignment.heads) is.links_follow);
        junctions_obey = λ j own at.
            let k = beside-first (IsSameJunction project nodes time) project.junctions.list nodes.junctions.list
            alike.junctions j own at in
            junction-alike S assignment (where_so (j == place) q) j own k.beside k.holds
            (is.junctions_obey j k.beside k.is_beside);
      }

-- ---- data within no spread

same-decimal : (a b : Decimal) → a.nano ≡ b.nano → a ≡ b
same-decimal a b e =
    let ByNano : ℤ → Type 0 = λ n. (p : unsigned_abs n ≤ 10 ^ 21) → a ≡ record { nano = n; bounded = p } in
    let own : ByNano a.nano = λ p i. record { nano = a.nano; bounded = le_prop a.bounded p i } in
    subst ByNano e own b.bounded

module _ (project : Project) (sound : IsSound project) where
  emitter-alone : (own other : Option Capacity) → IfSome own (λ c. IsEmitter project.options.unit c.origin)
      → IfSome own IsMade → EmitterIsWithin one_alone own other → other ≡ own
  emitter-alone None None ranged made w = refl
  emitter-alone None (Some b) ranged made w = absurd w
  emitter-alone (Some own) None ranged made w = absurd w
  emitter-alone (Some own) (Some other) ranged made w =
      let itself = own-emitter project.options.unit own ranged made in
      let least = products-least (coefficient_of own.origin) in
      let greatest = products-greatest (coefficient_of own.origin) in
      let low = w.within.low in
      let high = w.within.high in
      let nano : w.nano ≡ coefficient_of own.origin = omega (arith, ints, least, greatest, low, high) in
      let ends = same-ends project sound other own
      (emitters-in-order own.origin w.nano (coefficient_of own.origin) other own w.is_emitter itself
      (omega (arith, ints, nano)))
      (emitters-in-order own.origin (coefficient_of own.origin) w.nano own other itself w.is_emitter
      (omega (arith, ints, nano))) in
      let unit = one-unit own.origin w.is_emitter.own_coefficient itself.coefficient w.is_emitter.unit itself.unit
      w.is_emitter.own_is itself.origin in
      let number = same-decimal w.is_emitter.coefficient itself.coefficient
      (w.is_emitter.nano_is ∙ nano ∙ sym itself.nano_is) in
      let origin : other.origin ≡ own.origin =
      w.is_emitter.origin ∙ (λ i. Emitter (number i) (unit i)) ∙ sym itself.origin in
      ap Some (same-capacity other own ends.0 ends.1 origin)

  junctions-alone : (nodes : NodeData) (time from : ℕ) (js ks : List Junction)
      → AllByRecursion (HasOwnEmitter project sound) js
      → AllZip (IsJunctionWithin (with_data project nodes) time)
      (map_from (known_junction project no_spread time) from js) ks
      → AllZip (IsSameJunction project nodes time) js ks
  junctions-alone nodes time from [] [] own all = tt
  junctions-alone nodes time from [] (k ∷ ks) own all = absurd all
  junctions-alone nodes time from (j ∷ js) [] own all = absurd all
  junctions-alone nodes time from (j ∷ js) (k ∷ ks) own all = (
    record {
      elevation = all.0.elevation;
      demand =
          let low = all.0.demand.low in
          let high = all.0.demand.high in
          let least = products-least (demand_of project time j) in
          let greatest = products-greatest (demand_of project time j) in
          omega (arith, ints, low, high, least, greatest);
      emitter = emitter-alone j.emitter k.emitter own.0.ranged.emitter own.0.made all.0.emitter;
    },
    junctions-alone nodes time (suc from) js ks own.1 all.1,
  )

  heads-alone : (nodes : NodeData) (time from : ℕ) (rs ss : List Reservoir)
      → AllZip (HasHeadWithin (with_data project nodes) time) (map_from (known_head project no_spread time) from rs) ss
      → map (reservoir_head (with_data project nodes) time) ss ≡ map (reservoir_head project time) rs
  heads-alone nodes time from [] [] all = refl
  heads-alone nodes time from [] (s ∷ ss) all = absurd all
  heads-alone nodes time from (r ∷ rs) [] all = absurd all
  heads-alone nodes time from (r ∷ rs) (s ∷ ss) all =
      let low = all.0.low in
      let high = all.0.high in
      let here : reservoir_head (with_data project nodes) time s ≡ reservoir_head project time r =
      omega (arith, ints, low, high) in
      let rest = heads-alone nodes time (suc from) rs ss all.1 in
      λ i. here i ∷ rest i

  pub alike-without : (nodes : NodeData) (time : ℕ) → IsWithin project no_spread time nodes
      → AreAlike project nodes time
  alike-without nodes time w = record {
    junctions = junctions-alone nodes time 0 project.junctions.list nodes.junctions.list (own-emitters project sound)
        w.junctions;
    numbers = count-within project no_spread time nodes w;
    heads = heads-alone nodes time 0 project.reservoirs.list nodes.reservoirs.list w.reservoirs;
  }
