-- The grid of a period has sound laws where the capacities are made of the file's numbers.
use Rattle.std.proofs.Common.{ℕ, ◌*◌, ◌^◌, ◌<◌, sym, ap, subst, arith, List, [], ◌∷◌, get_or, Bool}
use Rattle.std.specs.Prelude.{Option, Some, None, if◌then◌else◌}
use Rattle.std.specs.List.{AllByRecursion, AllZip}
use Rattle.std.specs.Option.{IfSome, option_map_or}
use Rattle.std.proofs.lemmas.Int.{ints}
use Rattle.std.proofs.lemmas.Option.{slice_get-get_or}
use Rattle.std.proofs.lemmas.Bool.{cond_both}
use Rattle.std.proofs.lemmas.List.Elements.{recursion_from_All}
use Rattle.hyd_num.specs.CapacityPairs.{IsMade}
use Rattle.hyd_num.specs.declared.flow_units.FlowUnit.{FlowUnit}
use Rattle.hyd_net.specs.ListView.{ListView}
use Rattle.hyd_net.specs.Curves.{Knot, IsPumpCurve, IsLossCurve}
use Rattle.hyd_net.specs.NetworkRanges.{HasSizes, HasBend}
use Rattle.hyd_net.specs.RoundedFileNumbers.{IsKindMade, IsStateMade, IsValveMade, IsLossMade}
use Rattle.hyd_spec.specs.ProgramTypes.{Project, Junction, Capacity, Link, LinkKind, PipeLink, CheckPipe, PumpLink}
use Rattle.hyd_spec.specs.ProgramTypes.{CurvePump, PipeLoss, Manning, HazenWilliams}
use Rattle.hyd_spec.specs.ProgramTypes.{Tcv, Fcv, Gpv, OpenValve, Quadratic, Linear, LinkState, Open, Closed, Speed}
use Rattle.hyd_spec.specs.ProgramTypes.{Throttle}
use Rattle.hyd_spec.specs.ProgramTypes.{Limit, ShutoffHead, FourThirds, Given, HeadPoint, Pattern}
use Rattle.hyd_spec.specs.declared.TankState.{TankState}
use Rattle.hyd_spec_certificates.specs.Interval.{Interval}
use Rattle.hyd_spec.specs.DemandsHeadsAndPumpLifts.{is_us, shutoff_head, points_of, pump_knots, valve_knots}
use Rattle.hyd_spec.specs.Law.{Law, ForwardOnly, ReverseOnly}
use Rattle.hyd_spec.specs.LinkLaw.{own_law, pipe_law, valve_law, forbids_forward, forbids_reverse}
use Rattle.hyd_spec_certificates.specs.PeriodNetwork.{Grid, GridLink, GridJunction, IsGrid, IsJunctionOf, grid_links}
use Rattle.hyd_theorems_on_definitions.specs.SoundLawsAndGrids.{IsSoundGrid, IsSoundLaw, IsSoundCapacity, AreInOrder}
use Rattle.hyd_theorems_on_definitions.specs.SoundLawsAndGrids.{AreCapacitiesMade}
use Rattle.hyd_theorems_on_definitions.proofs.EachLaw.{IsSoundCapacity-made}
use Rattle.hyd_theorems_on_definitions.proofs.CurveKnots.{pump_knots-in_order, valve_knots-in_order}

pub pipe-sound : (loss : PipeLoss) → IsLossMade loss → IsSoundLaw (pipe_law loss)
pipe-sound (Manning capacity) made = IsSoundCapacity-made capacity made
pipe-sound (HazenWilliams capacity) made = made

pub valve-sound : (valve : OpenValve) → IsValveMade valve → IsSoundLaw (valve_law valve)
valve-sound (Quadratic capacity) made = IsSoundCapacity-made capacity made
valve-sound Linear made = tt

pub lift-above : (us : Bool) (head : ShutoffHead) → 0 < 10 ^ 18 * (shutoff_head us head).den
lift-above us (FourThirds head) = omega arith
lift-above us (Given head) = omega arith

-- the knots of a curve that is there
pub bend-sound : (P : List HeadPoint → Type 0) (knots : List HeadPoint → List Knot)
    (bends : List (ListView HeadPoint)) (bend : ℕ)
    → HasBend P bends bend → ((points : List HeadPoint) → P points → AreInOrder (knots points))
    → AreInOrder (knots (points_of bends bend))
bend-sound P knots bends bend has each =
    let there = ap (λ (o : Option (ListView HeadPoint)). option_map_or (λ (b : ListView HeadPoint). b.list) o [])
    (slice_get-get_or bends bend no_points has.in_range) in
    subst (λ (ps : List HeadPoint). AreInOrder (knots ps)) (sym there)
    (each (get_or bends bend no_points).list (has.holds no_points))
  where
    no_points : ListView HeadPoint
    no_points = record { list = []; spare = 0 }

pub own-sound : (us : Bool) (unit : FlowUnit) (patterns : List Pattern) (bends : List (ListView HeadPoint))
    (kind : LinkKind) (state : LinkState)
    → IsKindMade unit kind → HasSizes unit patterns bends kind → IsStateMade unit state
    → IsSoundLaw (own_law us bends kind state)
own-sound us unit patterns bends (PipeLink loss) Open kind sizes state = pipe-sound loss kind
own-sound us unit patterns bends (PipeLink loss) Closed kind sizes state = tt
own-sound us unit patterns bends (PipeLink loss) (Speed speed) kind sizes state = tt
own-sound us unit patterns bends (PipeLink loss) (Throttle nano law) kind sizes state = tt
own-sound us unit patterns bends (PipeLink loss) (Limit nano ticks) kind sizes state = tt
own-sound us unit patterns bends (CheckPipe loss) Open kind sizes state = pipe-sound loss kind
own-sound us unit patterns bends (CheckPipe loss) Closed kind sizes state = tt
own-sound us unit patterns bends (CheckPipe loss) (Speed speed) kind sizes state = tt
own-sound us unit patterns bends (CheckPipe loss) (Throttle nano law) kind sizes state = tt
own-sound us unit patterns bends (CheckPipe loss) (Limit nano ticks) kind sizes state = tt
own-sound us unit patterns bends (PumpLink capacity shutoff head pattern) Open kind sizes state = tt
own-sound us unit patterns bends (PumpLink capacity shutoff head pattern) Closed kind sizes state = tt
own-sound us unit patterns bends (PumpLink capacity shutoff head pattern) (Speed speed) kind sizes state =
    (lift-above us head, IsSoundCapacity-made capacity kind.0)
own-sound us unit patterns bends (PumpLink capacity shutoff head pattern) (Throttle nano law) kind sizes state = tt
own-sound us unit patterns bends (PumpLink capacity shutoff head pattern) (Limit nano ticks) kind sizes state = tt
own-sound us unit patterns bends (CurvePump bend pattern) Open kind sizes state = tt
own-sound us unit patterns bends (CurvePump bend pattern) Closed kind sizes state = tt
own-sound us unit patterns bends (CurvePump bend pattern) (Speed speed) kind sizes state = (
  omega (arith, ints),
  bend-sound IsPumpCurve (λ points. pump_knots points speed) bends bend sizes.0
      (λ points. pump_knots-in_order points speed),
)
own-sound us unit patterns bends (CurvePump bend pattern) (Throttle nano law) kind sizes state = tt
own-sound us unit patterns bends (CurvePump bend pattern) (Limit nano ticks) kind sizes state = tt
own-sound us unit patterns bends (Tcv valve) Open kind sizes state = valve-sound valve kind
own-sound us unit patterns bends (Tcv valve) Closed kind sizes state = tt
own-sound us unit patterns bends (Tcv valve) (Speed speed) kind sizes state = tt
own-sound us unit patterns bends (Tcv valve) (Throttle nano law) kind sizes state = valve-sound law state.2
own-sound us unit patterns bends (Tcv valve) (Limit nano ticks) kind sizes state = tt
own-sound us unit patterns bends (Fcv valve) Open kind sizes state = valve-sound valve kind
own-sound us unit patterns bends (Fcv valve) Closed kind sizes state = tt
own-sound us unit patterns bends (Fcv valve) (Speed speed) kind sizes state = tt
own-sound us unit patterns bends (Fcv valve) (Throttle nano law) kind sizes state = tt
own-sound us unit patterns bends (Fcv valve) (Limit nano ticks) kind sizes state = valve-sound valve kind
own-sound us unit patterns bends (Gpv bend) Open kind sizes state =
    (omega (arith, ints), bend-sound IsLossCurve valve_knots bends bend sizes valve_knots-in_order)
own-sound us unit patterns bends (Gpv bend) Closed kind sizes state = tt
own-sound us unit patterns bends (Gpv bend) (Speed speed) kind sizes state = tt
own-sound us unit patterns bends (Gpv bend) (Throttle nano law) kind sizes state = tt
own-sound us unit patterns bends (Gpv bend) (Limit nano ticks) kind sizes state = tt

ways-sound : (forward reverse : Bool) (own : Law) → IsSoundLaw own
    → IsSoundLaw (if reverse then ForwardOnly (if forward then ReverseOnly own else own)
    else (if forward then ReverseOnly own else own))
ways-sound forward reverse own sound =
    let inner = cond_both forward (ReverseOnly own) own IsSoundLaw (λ e. sound) (λ e. sound) in
    cond_both reverse (ForwardOnly (if forward then ReverseOnly own else own)) (if forward then ReverseOnly own
    else own) IsSoundLaw (λ e. inner) (λ e. inner)

links-sound : (project : Project) (tanks : List TankState) (links : List Link) (states : List LinkState)
    → AllByRecursion (λ (l : Link). IsKindMade project.options.unit l.kind) links
    → AllByRecursion (λ (l : Link). HasSizes project.options.unit project.patterns.list project.bends.list l.kind)
    links → AllByRecursion (IsStateMade project.options.unit) states
    → AllByRecursion (λ (link : GridLink). IsSoundLaw link.law) (grid_links project tanks links states)
links-sound project tanks [] states kinds sizes made = tt
links-sound project tanks (link ∷ links) [] kinds sizes made = tt
links-sound project tanks (link ∷ links) (state ∷ states) kinds sizes made = (
  ways-sound (forbids_forward project tanks link) (forbids_reverse project tanks link)
      (own_law (is_us project) project.bends.list link.kind state)
      (own-sound (is_us project) project.options.unit project.patterns.list project.bends.list link.kind state kinds.0
      sizes.0 made.0),
  links-sound project tanks links states kinds.1 sizes.1 made.1,
)

emitter-sound : (e : Option Capacity) → IfSome e IsMade → IfSome e IsSoundCapacity
emitter-sound None made = tt
emitter-sound (Some c) made = IsSoundCapacity-made c made

emitters-sound : (project : Project) (time : ℕ) (xs : List Junction) (ys : List GridJunction)
    → AllZip (IsJunctionOf project time) xs ys
    → AllByRecursion (λ (j : Junction). IfSome j.emitter IsMade) xs
    → AllByRecursion (λ (j : GridJunction). IfSome j.emitter IsSoundCapacity) ys
emitters-sound project time [] [] all made = tt
emitters-sound project time [] (y ∷ ys) all made = absurd all
emitters-sound project time (x ∷ xs) [] all made = absurd all
emitters-sound project time (x ∷ xs) (y ∷ ys) all made = (
  subst (λ (e : Option Capacity). IfSome e IsSoundCapacity) (sym all.0.emitter) (emitter-sound x.emitter made.0),
  emitters-sound project time xs ys all.1 made.1,
)

pub IsSoundGrid-made : (project : Project) (time : ℕ) (intervals : List Interval) (tanks : List TankState)
    (links : List LinkState) (grid : Grid)
    → IsGrid project time intervals tanks links grid → AreCapacitiesMade project links → IsSoundGrid grid
IsSoundGrid-made project time intervals tanks links grid is made = record {
  links = subst (λ (ls : List GridLink). AllByRecursion (λ (link : GridLink). IsSoundLaw link.law) ls)
      (sym is.links_are)
      (links-sound project tanks project.links.list links (recursion_from_All _ _ made.kinds)
      (recursion_from_All _ _ made.sizes) (recursion_from_All _ _ made.states));
  emitters = emitters-sound project time project.junctions.list grid.junctions is.junctions
      (recursion_from_All _ _ made.emitters);
}
