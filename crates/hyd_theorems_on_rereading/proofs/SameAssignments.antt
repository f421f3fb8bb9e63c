-- The assignments of a period are the same of alike parts.
use Rattle.std.proofs.Common.{◌≡◌, ℕ, zero, suc, ℤ, pos, Bool, true, false, MatchBool, List, [], ◌∷◌, ◌++◌, Option}
use Rattle.std.proofs.Common.{Some, None, MatchOption, refl, ap, subst, ◌∙◌}
use Rattle.std.specs.Prelude.{◌-ℤ◌, slice_get}
use Rattle.std.specs.List.{AllZip}
use Rattle.hyd_num.specs.Rational.{is_at_most}
use Rattle.hyd_spec.specs.ProgramTypes.{Project, Junction, Reservoir, Link, LinkState, Capacity}
use Rattle.hyd_spec.specs.declared.TankState.{TankState}
use Rattle.hyd_spec.specs.Scale.{at_scale}
use Rattle.hyd_spec.specs.DemandsHeadsAndPumpLifts.{demand_of, reservoir_head, minimum_pressure}
use Rattle.hyd_spec.specs.DemandsHeadsAndPumpLifts.{required_pressure}
use Rattle.hyd_spec.specs.Law.{Law, QuadraticLaw, Follows}
use Rattle.hyd_spec.specs.Outflow.{IsWithinTolerance, pressure_at, is_pressure_driven, FollowsPart, FollowsPressure}
use Rattle.hyd_spec.specs.Outflow.{FollowsDemand, FollowsEmitter}
use Rattle.hyd_spec.specs.Assignment.{Assignment, tank_heads, node_heads, head_at, flow_at, LinksFollow, none, more}
use Rattle.hyd_spec.specs.Assignment.{JunctionObeys, IsAssignment}
use Rattle.hyd_theorems_on_rereading.proofs.PartsWithSpares.{Inner, with_inner, IsLikeJunction, AreAlike}
use Rattle.hyd_theorems_on_rereading.proofs.SameQuantities.{same_map, same_count, same_demand, same_reservoir}
use Rattle.hyd_theorems_on_rereading.proofs.SameLinkLaws.{same_law}

-- ---- items at one place

record IsFoundBeside {X : Type 0} (R : X → X → Type 0) (xs : List X) (k : ℕ) (b : X) : Type 0 where
  item : X
  there : slice_get xs k ≡ Some item
  related : R item b

zip_found : {X : Type 0} (R : X → X → Type 0) (xs ys : List X) (k : ℕ) (b : X) → AllZip R xs ys
    → slice_get ys k ≡ Some b → IsFoundBeside R xs k b
zip_found R [] [] k b all e = absurd (let s : None ≡ Some b = e in cc)
zip_found R [] (y ∷ ys) k b all e = absurd all
zip_found R (x ∷ xs) [] k b all e = absurd all
zip_found R (x ∷ xs) (y ∷ ys) zero b all e =
    let same : y ≡ b = cc in
    record { item = x; there = refl; related = subst (λ (c : _). R x c) same all.0 }
zip_found R (x ∷ xs) (y ∷ ys) (suc k) b all e =
    let rest = zip_found R xs ys k b all.1 e in
    record { item = rest.item; there = rest.there; related = rest.related }

module _ (p : Project) (x y : Inner) (alike : AreAlike x y) where
  pub same_node_heads : (S time : ℕ) (levels heads : List ℤ)
      → node_heads (with_inner p x) S time levels heads ≡ node_heads (with_inner p y) S time levels heads
  same_node_heads S time levels heads =
      ap (λ (fixed : List ℤ). heads ++ (fixed ++ tank_heads S p.tanks.list levels))
      (same_map (λ (r : Reservoir). at_scale S (reservoir_head (with_inner p x) time r))
      (λ (r : Reservoir). at_scale S (reservoir_head (with_inner p y) time r))
      (λ r. ap (λ (h : ℤ). at_scale S h) (same_reservoir p x y alike time r)) p.reservoirs.list)

  -- ---- links

  follow_on : (tanks : List TankState) (S : ℕ) (heads : List ℤ) (links : List Link) (states : List LinkState)
      (flows : List ℤ) → LinksFollow (with_inner p x) tanks S heads links states flows
      → LinksFollow (with_inner p y) tanks S heads links states flows
  follow_on tanks S heads _ _ _ none = none
  follow_on tanks S heads _ _ _
      (more {link = link} {links = links} {state = state} {states = states} {q = q} {flows = flows} follows rest) =
      more (subst (λ (law : Law). Follows law S (head_at heads link.from -ℤ head_at heads link.to) q)
      (same_law p x y alike tanks link state) follows) (follow_on tanks S heads links states flows rest)

  -- ---- junctions

  part_on : (demand : ℤ) (S : ℕ) (r q : ℤ) → FollowsPart (with_inner p x) demand S r q
      → FollowsPart (with_inner p y) demand S r q
  part_on demand S r q is = record { at_least = is.at_least; at_most = is.at_most }

  between_by : (above : Bool) (demand : ℤ) (S : ℕ) (r q : ℤ)
      → MatchBool above (IsWithinTolerance S q (at_scale S demand)) (FollowsPart (with_inner p x) demand S r q)
      → MatchBool above (IsWithinTolerance S q (at_scale S demand)) (FollowsPart (with_inner p y) demand S r q)
  between_by true demand S r q is = is
  between_by false demand S r q is = part_on demand S r q is

  pressure_by : (below above : Bool) (demand : ℤ) (S : ℕ) (r q : ℤ)
      → MatchBool below (IsWithinTolerance S q (pos 0)) (MatchBool above (IsWithinTolerance S q (at_scale S demand))
      (FollowsPart (with_inner p x) demand S r q))
      → MatchBool below (IsWithinTolerance S q (pos 0)) (MatchBool above (IsWithinTolerance S q (at_scale S demand))
      (FollowsPart (with_inner p y) demand S r q))
  pressure_by true above demand S r q is = is
  pressure_by false above demand S r q is = between_by above demand S r q is

  pressure_on : (demand : ℤ) (S : ℕ) (r q : ℤ) → FollowsPressure (with_inner p x) demand S r q
      → FollowsPressure (with_inner p y) demand S r q
  pressure_on demand S r q is = pressure_by (is_at_most (pressure_at S r) (minimum_pressure (with_inner p x)))
      (is_at_most (required_pressure (with_inner p x)) (pressure_at S r)) demand S r q is

  demand_by : (driven : Bool) (demand : ℤ) (S : ℕ) (r q : ℤ)
      → MatchBool driven (FollowsPressure (with_inner p x) demand S r q) (IsWithinTolerance S q (at_scale S demand))
      → MatchBool driven (FollowsPressure (with_inner p y) demand S r q) (IsWithinTolerance S q (at_scale S demand))
  demand_by true demand S r q is = pressure_on demand S r q is
  demand_by false demand S r q is = is

  -- the flow of a demand of so many flow ticks
  abbrev FollowsTicks : Inner → ℤ → ℕ → ℤ → ℤ → Type 0
  FollowsTicks z demand S r q = MatchBool (is_pressure_driven (with_inner p z) demand)
      (FollowsPressure (with_inner p z) demand S r q) (IsWithinTolerance S q (at_scale S demand))

  demand_on : (time : ℕ) (a b : Junction) (S : ℕ) (r q : ℤ) → IsLikeJunction a b
      → FollowsDemand (with_inner p x) time a S r q → FollowsDemand (with_inner p y) time b S r q
  demand_on time a b S r q like is =
      subst (λ (d : ℤ). FollowsTicks y d S r q) (same_demand p x y alike time a b like)
      (demand_by (is_pressure_driven (with_inner p x) (demand_of (with_inner p x) time a))
      (demand_of (with_inner p x) time a) S r q is)

  emitter_on : (a b : Junction) (S : ℕ) (r q : ℤ) → IsLikeJunction a b → FollowsEmitter a S r q
      → FollowsEmitter b S r q
  emitter_on a b S r q like is =
      subst (λ (e : Option Capacity). MatchOption e (q ≡ pos 0) (λ capacity. Follows (QuadraticLaw capacity) S r q))
      like.emitter is

  obeys_on : (time S : ℕ) (assignment : Assignment) (j : ℕ) (a b : Junction) → IsLikeJunction a b
      → JunctionObeys (with_inner p x) time S assignment j a → JunctionObeys (with_inner p y) time S assignment j b
  obeys_on time S assignment j a b like is = record {
    demand = demand_on time a b S (head_at assignment.heads j -ℤ at_scale S b.elevation)
        (flow_at assignment.demands j) like
        (subst (λ (h : ℤ). FollowsDemand (with_inner p x) time a S (head_at assignment.heads j -ℤ at_scale S h)
        (flow_at assignment.demands j)) like.elevation is.demand);
    emitter = emitter_on a b S (head_at assignment.heads j -ℤ at_scale S b.elevation) (flow_at assignment.emitters j)
        like
        (subst (λ (h : ℤ). FollowsEmitter a S (head_at assignment.heads j -ℤ at_scale S h)
        (flow_at assignment.emitters j)) like.elevation is.emitter);
    balance = is.balance;
  }

  pub assignment_on : (S time : ℕ) (levels : List ℤ) (tanks : List TankState) (links : List LinkState)
      (assignment : Assignment) → IsAssignment (with_inner p x) S time levels tanks links assignment
      → IsAssignment (with_inner p y) S time levels tanks links assignment
  assignment_on S time levels tanks links assignment is =
      let count = same_count p x y alike in
      record {
        scale = is.scale;
        level_each = is.level_each;
        tank_each = is.tank_each;
        head_each = is.head_each ∙ count;
        demand_each = is.demand_each ∙ count;
        emitter_each = is.emitter_each ∙ count;
        links_follow = subst (λ (heads : List ℤ). LinksFollow (with_inner p y) tanks S heads p.links.list links
            assignment.flows) (same_node_heads S time levels assignment.heads)
            (follow_on tanks S (node_heads (with_inner p x) S time levels assignment.heads) p.links.list links
            assignment.flows is.links_follow);
        junctions_obey = λ j b e.
            let found = zip_found IsLikeJunction x.junctions.list y.junctions.list j b alike.junctions e in
            obeys_on time S assignment j found.item b found.related (is.junctions_obey j found.item found.there);
      }
