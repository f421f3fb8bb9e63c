-- A period of a network whose data at its start are the file's is a period of the file's network.
use Rattle.std.proofs.Common.{◌≡◌, ◌≢◌, ℕ, zero, suc, ◌+◌, ℤ, pos, ◌-ℤ◌, refl, sym, ap, subst, ◌∙◌}
use Rattle.std.proofs.Common.{Bool, true, false, List, [], ◌∷◌, ◌++◌}
use Rattle.std.specs.Prelude.{Option, slice_get, map, MatchBool}
use Rattle.std.specs.List.{AllZip}
use Rattle.std.specs.Option.{option_map_or}
use Rattle.hyd_spec.specs.ProgramTypes.{Project, Junction, Reservoir, Link, LinkState, Capacity}
use Rattle.hyd_spec.specs.declared.TankState.{TankState}
use Rattle.hyd_spec.specs.Scale.{at_scale}
use Rattle.hyd_spec.specs.Law.{Law, Follows}
use Rattle.hyd_spec.specs.DemandsHeadsAndPumpLifts.{demand_of, reservoir_head, minimum_pressure, required_pressure}
use Rattle.hyd_spec.specs.Outflow.{IsWithinTolerance, pressure_at, is_pressure_driven, FollowsPart, FollowsPressure}
use Rattle.hyd_spec.specs.Outflow.{FollowsDemand, FollowsEmitter}
use Rattle.hyd_num.specs.Rational.{is_at_most}
use Rattle.hyd_spec.specs.Assignment.{Assignment, IsAssignment, JunctionObeys, LinksFollow, none, more, head_at}
use Rattle.hyd_spec.specs.Assignment.{flow_at}
use Rattle.hyd_spec.specs.Assignment.{node_heads, tank_heads}
use Rattle.hyd_spec.specs.Rules.{elevation_of, rule_changes}
use Rattle.hyd_spec.specs.PeriodLength.{Period}
use Rattle.hyd_spec.specs.PeriodLength.{MayEnd, by_clock}
use Rattle.hyd_spec.specs.PeriodLength.{by_level, by_rules, HasItsLength, at_end, before_end, values_at}
use Rattle.hyd_spec.specs.History.{IsPeriod, commanded_after}
use Rattle.hyd_spec_spread.specs.NetworksWithin.{NodeData, with_data}
use Rattle.hyd_theorems_on_spread.proofs.ZippedLists.{zip-long, beside-first}
use Rattle.hyd_theorems_on_spread.proofs.LinksWithin.{NumbersAlike, law-alike}
use Rattle.hyd_theorems_on_spread.proofs.RulesAlike.{values-alike}
use Rattle.hyd_theorems_on_spread.proofs.EndsAlike.{clock-alike, clock-back, level-alike, level-back}

-- ---- data that are alike at a time

pub record IsSameJunction (project : Project) (nodes : NodeData) (time : ℕ) (own other : Junction) : Type 0 where
  pub elevation : other.elevation ≡ own.elevation
  pub demand : demand_of (with_data project nodes) time other ≡ demand_of project time own
  pub emitter : other.emitter ≡ own.emitter

pub record AreAlike (project : Project) (nodes : NodeData) (time : ℕ) : Type 0 where
  pub junctions : AllZip (IsSameJunction project nodes time) project.junctions.list nodes.junctions.list
  pub numbers : NumbersAlike project nodes
  pub heads : map (reservoir_head (with_data project nodes) time) nodes.reservoirs.list
      ≡ map (reservoir_head project time) project.reservoirs.list

module _ (project : Project) (nodes : NodeData) (time : ℕ) (alike : AreAlike project nodes time) where
  abbrev network : Project
  network = with_data project nodes

  -- ---- heads of all nodes

  scaled-map : (S : ℕ) (f : Reservoir → ℤ) (rs : List Reservoir)
      → map (λ r. at_scale S (f r)) rs ≡ map (at_scale S) (map f rs)
  scaled-map S f [] = refl
  scaled-map S f (r ∷ rs) = let rest = scaled-map S f rs in λ i. at_scale S (f r) ∷ rest i

  pub heads-alike : (S : ℕ) (levels heads : List ℤ)
      → node_heads network S time levels heads ≡ node_heads project S time levels heads
  heads-alike S levels heads =
      let path : map (λ r. at_scale S (reservoir_head network time r)) nodes.reservoirs.list
      ≡ map (λ r. at_scale S (reservoir_head project time r)) project.reservoirs.list =
      scaled-map S (reservoir_head network time) nodes.reservoirs.list ∙ ap (map (at_scale S)) alike.heads
      ∙ sym (scaled-map S (reservoir_head project time) project.reservoirs.list) in
      ap (λ (rs : List ℤ). heads ++ (rs ++ tank_heads S project.tanks.list levels)) path

  elevations-of : (js ks : List Junction) → AllZip (IsSameJunction project nodes time) js ks → (node : ℕ)
      → option_map_or (λ (j : Junction). j.elevation) (slice_get ks node) (pos 0)
      ≡ option_map_or (λ (j : Junction). j.elevation) (slice_get js node) (pos 0)
  elevations-of [] [] all node = refl
  elevations-of [] (k ∷ ks) all node = absurd all
  elevations-of (j ∷ js) [] all node = absurd all
  elevations-of (j ∷ js) (k ∷ ks) all zero = all.0.elevation
  elevations-of (j ∷ js) (k ∷ ks) all (suc node) = elevations-of js ks all.1 node

  elevations : (node : ℕ) → elevation_of network node ≡ elevation_of project node
  elevations node = elevations-of project.junctions.list nodes.junctions.list alike.junctions node

  -- ---- assignments

  follow-alike : (tanks : List TankState) (S : ℕ) (heads : List ℤ) (links : List Link) (states : List LinkState)
      (flows : List ℤ) → LinksFollow network tanks S heads links states flows
      → LinksFollow project tanks S heads links states flows
  follow-alike tanks S heads [] [] [] f = none
  follow-alike tanks S heads [] [] (q ∷ flows) f = elim f [ ]
  follow-alike tanks S heads [] (state ∷ states) flows f = elim f [ ]
  follow-alike tanks S heads (link ∷ links) [] flows f = elim f [ ]
  follow-alike tanks S heads (link ∷ links) (state ∷ states) [] f = elim f [ ]
  follow-alike tanks S heads (link ∷ links) (state ∷ states) (q ∷ flows) (more follows rest) =
      more (subst (λ (law : Law). Follows law S (head_at heads link.from -ℤ head_at heads link.to) q)
      (law-alike project nodes tanks link state alike.numbers) follows)
      (follow-alike tanks S heads links states flows rest)

  pressure-alike : (demand : ℤ) (S : ℕ) (p q : ℤ) → FollowsPressure network demand S p q
      → FollowsPressure project demand S p q
  pressure-alike demand S p q follows =
      by-least (is_at_most (pressure_at S p) (minimum_pressure project))
      (is_at_most (required_pressure project) (pressure_at S p)) follows
    where
      by-least : (b c : Bool) → MatchBool b (IsWithinTolerance S q (pos 0))
          (MatchBool c (IsWithinTolerance S q (at_scale S demand)) (FollowsPart network demand S p q))
          → MatchBool b (IsWithinTolerance S q (pos 0))
          (MatchBool c (IsWithinTolerance S q (at_scale S demand)) (FollowsPart project demand S p q))
      by-least true c x = x
      by-least false true x = x
      by-least false false x = record { at_least = x.at_least; at_most = x.at_most }

  demand-alike : (demand : ℤ) (S : ℕ) (p q : ℤ)
      → MatchBool (is_pressure_driven network demand) (FollowsPressure network demand S p q)
      (IsWithinTolerance S q (at_scale S demand))
      → MatchBool (is_pressure_driven project demand) (FollowsPressure project demand S p q)
      (IsWithinTolerance S q (at_scale S demand))
  demand-alike demand S p q follows = by-case (is_pressure_driven project demand) follows
    where
      by-case : (b : Bool) → MatchBool b (FollowsPressure network demand S p q)
          (IsWithinTolerance S q (at_scale S demand))
          → MatchBool b (FollowsPressure project demand S p q) (IsWithinTolerance S q (at_scale S demand))
      by-case true x = pressure-alike demand S p q x
      by-case false x = x

  junction-alike : (S : ℕ) (assignment : Assignment) (j : ℕ) (own other : Junction)
      → IsSameJunction project nodes time own other → JunctionObeys network time S assignment j other
      → JunctionObeys project time S assignment j own
  junction-alike S assignment j own other one obeys = record {
    demand =
        let d = subst (λ (z : ℤ). MatchBool (is_pressure_driven network z)
        (FollowsPressure network z S (head_at assignment.heads j -ℤ at_scale S other.elevation)
        (flow_at assignment.demands j)) (IsWithinTolerance S (flow_at assignment.demands j) (at_scale S z)))
        one.demand obeys.demand in
        subst (λ (e : ℤ). FollowsDemand project time own S (head_at assignment.heads j -ℤ at_scale S e)
        (flow_at assignment.demands j)) one.elevation
        (demand-alike (demand_of project time own) S (head_at assignment.heads j -ℤ at_scale S other.elevation)
        (flow_at assignment.demands j) d);
    emitter =
        let e = subst (λ (h : ℤ). FollowsEmitter other S (head_at assignment.heads j -ℤ at_scale S h)
        (flow_at assignment.emitters j)) one.elevation obeys.emitter in
        turned S (head_at assignment.heads j -ℤ at_scale S own.elevation) (flow_at assignment.emitters j) other own
        one.emitter e;
    balance = obeys.balance;
  }
    where
      turned : (S : ℕ) (p q : ℤ) (a b : Junction) → a.emitter ≡ b.emitter → FollowsEmitter a S p q
          → FollowsEmitter b S p q
      turned S p q a b e follows =
          subst (λ (o : Option Capacity). FollowsEmitter (record b { emitter = o }) S p q) e follows

  pub assignment-alike : (S : ℕ) (levels : List ℤ) (tanks : List TankState) (links : List LinkState)
      (assignment : Assignment) → IsAssignment network S time levels tanks links assignment
      → IsAssignment project S time levels tanks links assignment
  assignment-alike S levels tanks links assignment is =
      let long = zip-long (IsSameJunction project nodes time) project.junctions.list nodes.junctions.list
      alike.junctions in
      record {
        scale = is.scale;
        level_each = is.level_each;
        tank_each = is.tank_each;
        head_each = is.head_each ∙ sym long;
        demand_each = is.demand_each ∙ sym long;
        emitter_each = is.emitter_each ∙ sym long;
        links_follow = follow-alike tanks S (node_heads project S time levels assignment.heads) project.links.list links
            assignment.flows (subst (λ (hs : List ℤ). LinksFollow network tanks S hs project.links.list links
            assignment.flows) (heads-alike S levels assignment.heads) is.links_follow);
        junctions_obey = λ j own at.
            let k = beside-first (IsSameJunction project nodes time) project.junctions.list nodes.junctions.list
            alike.junctions j own at in
            junction-alike S assignment j own k.beside k.holds (is.junctions_obey j k.beside k.is_beside);
      }

  -- ---- lengths

  pub values : (S : ℕ) (period : Period) → period.time ≡ time → (instant : ℕ)
      → values_at network S period instant ≡ values_at project S period instant
  values S period here instant = values-alike project nodes alike.numbers elevations S period
      (subst (λ (t : ℕ). node_heads network S t period.levels period.assignment.heads
      ≡ node_heads project S t period.levels period.assignment.heads) (sym here)
      (heads-alike S period.levels period.assignment.heads)) instant

  may-alike : (S : ℕ) (period : Period) → period.time ≡ time → (e : ℕ) → MayEnd network S period e
      → MayEnd project S period e
  may-alike S period here e (by_clock ends) =
      by_clock (clock-alike project nodes alike.numbers elevations period.time e ends)
  may-alike S period here e (by_level seconds some is ends) =
      by_level seconds some is (level-alike project nodes alike.numbers elevations S period seconds ends)
  may-alike S period here e (by_rules ends) = by_rules (record {
    later = ends.later;
    is_tried = ends.is_tried;
    changes = subst (λ (vs : List Bool). rule_changes project vs period.links ≢ []) (values S period here e)
        ends.changes;
  })

  may-back : (S : ℕ) (period : Period) → period.time ≡ time → (e : ℕ) → MayEnd project S period e
      → MayEnd network S period e
  may-back S period here e (by_clock ends) =
      by_clock (clock-back project nodes alike.numbers elevations period.time e ends)
  may-back S period here e (by_level seconds some is ends) =
      by_level seconds some is (level-back project nodes alike.numbers elevations S period seconds ends)
  may-back S period here e (by_rules ends) = by_rules (record {
    later = ends.later;
    is_tried = ends.is_tried;
    changes = subst (λ (vs : List Bool). rule_changes project vs period.links ≢ []) (sym (values S period here e))
        ends.changes;
  })

  length-alike : (S : ℕ) (period : Period) → period.time ≡ time → HasItsLength network S period
      → HasItsLength project S period
  length-alike S period here (at_end is none_left) = at_end is none_left
  length-alike S period here (before_end not_last first) = before_end not_last (record {
    holds = may-alike S period here _ first.holds;
    least = λ k may. first.least k (may-back S period here k may);
  })

  pub period-alike : (S : ℕ) (period : Period) → period.time ≡ time → IsPeriod network S period
      → IsPeriod project S period
  period-alike S period here is = record {
    obeys = subst (λ (t : ℕ). IsAssignment project S t period.levels period.tanks period.links period.assignment)
        (sym here) (assignment-alike S period.levels period.tanks period.links period.assignment
        (subst (λ (t : ℕ). IsAssignment network S t period.levels period.tanks period.links period.assignment) here
        is.obeys));
    lasts = length-alike S period here is.lasts;
  }

  -- and it leaves the links commanded alike
  pub commands-alike : (S : ℕ) (period : Period) → period.time ≡ time
      → commanded_after network S period ≡ commanded_after project S period
  commands-alike S period here =
      let path = values S period here (period.time + period.length) in
      rw path refl
